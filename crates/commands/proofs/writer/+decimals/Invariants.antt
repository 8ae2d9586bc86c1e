use Rattle.commands.proofs.writer.+decimals.Given as goal

abbrev pub decreases-decimals : goal.decreases-decimals
decreases-decimals l = l.n

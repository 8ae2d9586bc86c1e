-- With these laws named on the function in place of the answers, the check does not close them.
use Rattle.edits.proofs.PutLaws.{put_laws}
use Rattle.edits.proofs.puts.output.Goals as goal

pub returns : goal.returns
returns c = search put_laws

-- What a reader takes moves it on, up to the end of its bytes.
use mathlib.Core.{Path.◌≡◌, List.List}
use Prim.Native.Nat.{ℕ, ◌-◌, ◌<◌}
use native.Mathlib.Omega.{arith}
use lib.ListN.{length}
use Rattle.std.specs.Prelude.{Option, Some, None}
use Rattle.commands.specs.{declared.Order.Order, declared.Script.Script}
use Rattle.commands.specs.{Reading.Reads, Reading.place_after, Reading.Takes}

past-it : (s : List ℕ) (at n : ℕ) (x : Option Order) → Reads s at x → n ≡ place_after s x → at < length s → at < n
unfolding place_after
past-it s at n None x e h = omega (arith, e, h)
past-it s at n (Some o) x e h = omega (arith, e, (x.places h).onward)

pub moves_on : {s t : Script} {x : Option Order} → s.place < length s.bytes.now → t.bytes ≡ s.bytes
    → Takes s.bytes.now s.place (record { reading = x; next = t.place })
    → length t.bytes.now - t.place < length s.bytes.now - s.place
moves_on {s} {t} {x} h same took = rw same (omega (arith, h, past-it s.bytes.now s.place t.place x took.reads took.next-is h))

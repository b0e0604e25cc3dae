-- `replay::read_full` meets its contract: each read adds what it gave to what stands in the buffer. Assumes nothing.
use Rattle.std.proofs.Common.{◌≡◌, ℕ, ◌+◌, ◌-◌, ◌≤◌, List, ◌++◌, length, take, sym, subst, arith, rules}
use Rattle.std.proofs.lemmas.Grind.{common_steps}
use lib.Seq.{take-add}
use Rattle.std.specs.Io.KnownBytes.{Consumes}
use Rattle.std.proofs.KnownBytes.{Consumes-trans}
use borrow.Rule.Slice.PartMut.{put_mid}
use Rattle.replay.proofs.read_full.Goals as goal

-- the front of a buffer after a read into the rest of it
front : (at n : ℕ) (old part : List ℕ) → at ≤ length old → n ≤ length part → take (at + n) (put_mid at (length old - at) old part) ≡ take at old ++ take n part
front at n old part h k = grind (arith, common_steps, take-add)

pub loop-end-preserved : goal.loop-end-preserved
loop-end-preserved g c =
    let loop = c.loop-end in
    let read = c.in_ok-n.ensures in
    let whole = front _ _ loop.buf c.read.new.buf loop.invariant.within read.bound.0 in
    record { within = search rules; read = subst (Consumes _ _) (sym whole) (Consumes-trans _ _ _ _ _ loop.invariant.read read.bytes.0) }

-- Two halves side by side are the area.
use Prim.Native.Nat.{◌+◌, ◌*◌}
use Rattle.std.proofs.Common.{arith, rules}
use Rattle.lists.specs.Splice.{splice_lent}
use Rattle.model.specs.Bytes.{padded}
use Rattle.laws.specs.Areas.{length_padded}
use Rattle.keystore.specs.StoredLaws.{stored_unsized, stored_past, put_halves}
use Rattle.keystore.proofs.put_keys.Goals as goal
use Rattle.keystore.proofs.put_keys.Goals.{then-store-ne-STORE_SIZE-via-then-store-ne-STORE_SIZE, then-store-ne-STORE_SIZE-via-else-store-ne-STORE_SIZE+then-slot-ge128}

pub returns-then-store-ne-STORE_SIZE : goal.returns-then-store-ne-STORE_SIZE
returns-then-store-ne-STORE_SIZE c = elim c.then-store-ne-STORE_SIZE.branch [
  | then-store-ne-STORE_SIZE-via-then-store-ne-STORE_SIZE w ↦ stored_unsized _ _ _ w.if-store-ne-STORE_SIZE.true
  | then-store-ne-STORE_SIZE-via-else-store-ne-STORE_SIZE+then-slot-ge128 w ↦ stored_past _ _ _ w.if-slot-ge128.true
]

pub returns : goal.returns
returns c = let a = c.args in
    let front = splice_lent (λ n. padded n a.front.now) (λ n. length_padded n a.front.now) a.store.now (128 * a.slot) 64 _ (omega arith) c.fill.ensures in
    let back = splice_lent (λ n. padded n a.back.now) (λ n. length_padded n a.back.now) _ (128 * a.slot + 64) 64 _ (search rules) c.fill-2.ensures in
    put_halves a.store.now _ _ a.slot a.front.now a.back.now c.if-store-ne-STORE_SIZE.false (omega arith) front back

-- `rules::shares_ok` meets its contract.
use Rattle.std.proofs.Common.{arith, rules, refl, ◌≡◌, ◌+◌, ◌++◌, ◌∷◌, [], ◌<◌, length}
use Rattle.std.proofs.lemmas.List.{length_push}
use Rattle.std.proofs.lemmas.Slice.Zip.{zip_turn, zip_end}
use Rattle.lists.specs.Sum.{sum_to}
use Rattle.rules.specs.Shares.{share_more, sum_more, reserve_above, cap_above, shares_done}
use Rattle.rules.proofs.shares_ok.Goals as goal
use Rattle.rules.proofs.shares_ok.Goals.{then-cap-reserve-via-then-cap-reserve, then-cap-reserve-via-else-cap-reserve+then-cap-gt128}

pub loop-reserve-init : goal.loop-reserve-init
unfolding sum_to
loop-reserve-init c = record { sum = refl; good = refl; bound = omega arith }

pub loop-reserve-preserved : goal.loop-reserve-preserved
loop-reserve-preserved c =
    let rs = c.args.reserves in
    let cs = c.args.caps in
    let n = length c.loop-reserve.yielded in
    let turn = zip_turn rs cs _ _ _ c.next.new.self _ (search rules) (search rules) c.loop-reserve.yielded_by (c.in-Some.reserve, c.in-Some.cap)
    c.in-Some.is c.next.ensures.steps in
    let more : length (c.loop-reserve.yielded ++ (c.in-Some.reserve, c.in-Some.cap) ∷ []) ≡ n + 1 = length_push c.loop-reserve.yielded _ in
    let inv = c.loop-reserve.invariant in
    record {
      sum = rw (more, c.from-sum.ensures) (sum_more rs cs n _ _ (turn.2 0) (turn.3 0) _ inv.sum);
      good = rw more (share_more rs cs n _ _ (turn.2 0) (turn.3 0) (omega arith) (omega arith) inv.good);
      bound = omega arith;
    }

pub returns-then-cap-reserve : goal.returns-then-cap-reserve
returns-then-cap-reserve c =
    let rs = c.args.reserves in
    let cs = c.args.caps in
    let n = length c.loop-reserve.yielded in
    let turn = zip_turn rs cs _ _ _ c.next.new.self _ (search rules) (search rules) c.loop-reserve.yielded_by (c.in-Some.reserve, c.in-Some.cap)
    c.in-Some.is c.next.ensures.steps in
    let inside : n < 8 = omega arith in
    elim c.then-cap-reserve.branch [
      | then-cap-reserve-via-then-cap-reserve w ↦ reserve_above rs cs n _ _ (turn.2 0) (turn.3 0) inside (omega arith)
      | then-cap-reserve-via-else-cap-reserve+then-cap-gt128 w ↦ cap_above rs cs n _ _ (turn.2 0) (turn.3 0) inside (omega arith)
    ]

pub returns : goal.returns
returns c =
    let rs = c.args.reserves in
    let cs = c.args.caps in
    let n = length c.loop-reserve.yielded in
    let inv = c.loop-reserve.invariant in
    let all = zip_end rs cs _ _ _ c.next.new.self _ (search rules) (search rules) c.loop-reserve.yielded_by c.in-None.is c.next.ensures.steps in
    shares_done rs cs n _ (omega arith) inv.good inv.sum

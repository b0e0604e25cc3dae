-- The histories of ticket K7 computed, and the difference that the theorem finds there.
-- Assumes nothing.
use Rattle.std.specs.Prelude.{ℕ, ◌≡◌, refl, List, replicate, get_or}
use Rattle.std.proofs.Common.{arith, sym, ap, ◌∙◌, inl, inr}
use Rattle.lists.specs.Sum.{sum_to}
use Rattle.model.specs.Bytes.{le, le32, le64, part, padded}
use Rattle.model.specs.Answer.{ok, nospc, first_fail, control_outcome, data_outcome, control_bytes, data_bytes}
use Rattle.model.specs.Algorithm.{known, key_ok, result_ok, iv_ok, source_ok, decrypted_ok, written_ok, payload_ok}
use Rattle.model.specs.Session.{store_size, slot_of, bits_of, word_of, marks_of, occupied_by, slots_of, with_slots, new_guest, key_start, key_area, area_of, key_len, key_of, bit, offers, direction_ok, lengths_ok, accepts}
use Rattle.model.specs.View.{present, find, no_room, full}
use Rattle.model.specs.Act.{with_slot, without, with_guest, restarted, numbered, table_after, store_after, with_area, wipe}
use Rattle.model.specs.Setup.{config_of, only_bits, config_ok, shares_ok, set_up_answer, fresh_table, set_up}
use Rattle.model.specs.Control.{opcode_ok, asked, new_entry, control_checks}
use Rattle.model.specs.Data.{operation_ok, lengths, fits, part_of, status}
use Rattle.model.specs.Device.{checks_of, outcome, checks, act, reply, next}
use Rattle.model.specs.Calls.{run, outcomes, only}
use Rattle.demands.specs.Statement.{FirstDifference, Learns}
use Rattle.demands.proofs.Learn.{learns}
use Rattle.cases.specs.Build.{offer}
use Rattle.cases.specs.Greedy.{reserves, caps, start, quiet, busy, answers, Computed}

pub computed : Computed
unfolding le le32 le64 part padded first_fail control_outcome data_outcome control_bytes data_bytes known key_ok result_ok iv_ok source_ok decrypted_ok written_ok payload_ok slot_of bits_of word_of marks_of occupied_by slots_of with_slots new_guest key_start key_area area_of key_len key_of bit offers direction_ok lengths_ok accepts present find no_room full with_slot without with_guest restarted numbered table_after store_after with_area wipe config_of only_bits config_ok shares_ok set_up_answer fresh_table set_up opcode_ok asked new_entry control_checks operation_ok lengths fits part_of status checks_of outcome checks act reply next sum_to only run outcomes
computed = record { calls = (refl, refl); granted = refl; refused = refl; before = refl; places = (refl, refl); unseen = refl; offered = refl }

-- so the theorem finds the difference
pub seen : FirstDifference 0 start start quiet busy
seen = go (learns offer reserves caps (replicate store_size 0) 0 quiet busy computed.calls.0)
  where
    go : Learns 0 start start quiet busy → FirstDifference 0 start start quiet busy
    go (inl p) =
        let e : ok ≡ nospc = ap (λ (l : List ℕ). get_or l 4 0) (sym computed.granted ∙ ap answers p.got ∙ computed.refused) in
        absurd (omega (arith, e))
    go (inr d) = d

-- What an acknowledged sender writes is within its size.
use Rattle.std.proofs.Common.{◌≡◌, ◌≤◌, ◌<◌, ℕ, ◌+◌, ◌-◌, ◌%◌, ◌==◌, nat_le, nat_lt, Bool, true, false, not, ◌&&◌}
use Rattle.std.proofs.Common.{if◌then◌else◌, Option, Some, None, List, length, drop, slice_range, refl, arith}
use Rattle.std.proofs.lemmas.Bool.Decides.{nat_tests}
use Rattle.std.proofs.lemmas.List.{length-take}
use Rattle.rlc_pdu.specs.declared.outcome.Taken.TheVariants as taken
use Rattle.rlc_pdu.specs.declared.pdu.Part.{Part}
use Rattle.rlc_pdu.specs.Writing.{header_len}
use Rattle.rlc_queue.specs.NewPdu.{framing, IsWithin}
use Rattle.rlc_am_tx_window.specs.Cut.{clip}
use Rattle.rlc_am_tx_window.specs.Sent.{Sent, first_waiting, all_wait, whole_size, stretch_from, next_stretch}
use Rattle.rlc_am_tx_window.specs.Window.{next}
use Rattle.rlc_am_tx_window.specs.Written.{begins_at, ends_at, whole_octets, part_octets}
use Rattle.rlc_am_tx_window.proofs.CutFits.{cut-fits}
use Rattle.rlc_am_tx.specs.declared.turn.Turn.{Turn}
use Rattle.rlc_am_tx.specs.declared.turn.Turn.TheVariants as turns
use Rattle.rlc_am_tx.specs.Machine.{State, waits, is_empty, is_shut, is_held, again, turn, IsAble, number_again}
use Rattle.rlc_am_tx.specs.Machine.{is_wanted, sent_whole, sent_segment, sent_new, new_slot, answer_of, answer}
use Rattle.law_node.proofs.Sizes.{amd_size}
use Rattle.law_node.proofs.Waiting.{turn_by}
use Rattle.law_node.proofs.Within.{new_size}

-- ---- the whole of a PDU

whole_within : (h : Sent) (number size : ℕ) (first poll : Bool) → whole_size h ≤ size
    → IsWithin size (taken.Piece number first poll (whole_octets h number poll))
whole_within h number size first poll fits =
    let is = amd_size (number % 1024) poll (framing h.begins h.ends) None h.lens h.field in
    (omega (arith, is), omega (arith, is, fits))

-- ---- a segment of one

stretch_fits : (o : Option Part) (h : Sent) (size : ℕ) → 5 ≤ size
    → header_len 4 (length (stretch_from o h size).lens) + ((stretch_from o h size).to - (stretch_from o h size).from)
    ≤ size
stretch_fits None h size five = omega (arith, five)
stretch_fits (Some p) h size five = let fits = cut-fits size (clip p.start (p.end + 1) h.lens) five in
    omega (arith, fits)

range_size : (xs : List ℕ) (from to : ℕ) → length (slice_range xs from to) ≤ to - from
range_size xs from to = omega (arith, length-take (to - from) (drop from xs))

part_within : (h : Sent) (number size : ℕ) (poll : Bool) → 5 ≤ size
    → IsWithin size (taken.Piece number false poll (part_octets h number poll (next_stretch h size)))
part_within h number size poll five =
    let s = next_stretch h size in
    let field = slice_range h.field s.from s.to in
    let is = amd_size (number % 1024) poll (framing (begins_at h s.from) (ends_at h s.to))
    (Some (record { last = s.to == length h.field; so = s.from })) s.lens field in
    let few = range_size h.field s.from s.to in
    let fits = stretch_fits (first_waiting h) h size five in
    (omega (arith, is), omega (arith, is, few, fits))

-- ---- the turns

-- the tests of a turn
record Tests (s : State) (size : ℕ) (whole part small empty : Bool) : Type 0 where
  whole' : whole ≡ true → whole_size (again s) ≤ size
  part' : part ≡ true → 5 ≤ size
  small' : small ≡ false → 3 ≤ size
  empty' : empty ≡ false → 0 < length s.queue.sdus

able_by : (s : State) (size : ℕ) (idle failed waiting whole part shut held small empty : Bool) → waits s ≡ waiting
    → Tests s size whole part small empty
    → IsAble s size (if idle then turns.Idle else turn_by failed waiting whole part shut held small empty)
able_by s size true failed waiting whole part shut held small empty w t = tt
able_by s size false true waiting whole part shut held small empty w t = tt
able_by s size false false true true part shut held small empty w t = (w, t.whole' refl)
able_by s size false false true false true shut held small empty w t = (w, t.part' refl)
able_by s size false false true false false shut held small empty w t = tt
able_by s size false false false whole part true held small empty w t = tt
able_by s size false false false whole part false true small empty w t = tt
able_by s size false false false whole part false false true empty w t = tt
able_by s size false false false whole part false false false true w t = tt
able_by s size false false false whole part false false false false w t = (t.empty' refl, t.small' refl)

pub able : (s : State) (size : ℕ) (held : Option ℕ) (more : Bool) → IsAble s size (turn s size held more)
unfolding turn
able s size held more =
    able_by s size (not (waits s) && is_empty s && not more) s.failed (waits s)
    (all_wait (again s) && nat_le (whole_size (again s)) size) (nat_le 5 size) (is_shut s)
    (is_held held (next s.window)) (nat_lt size 3) (is_empty s) refl
    (record {
      whole' = λ e. grind (arith, nat_tests);
      part' = λ e. grind (arith, nat_tests);
      small' = λ e. grind (arith, nat_tests);
      empty' = λ e. grind (arith, nat_tests);
    })

am_by : (t : Turn) (s : State) (size : ℕ) (more : Bool) → IsAble s size t → IsWithin size (answer_of t s size more)
unfolding answer_of
am_by turns.Whole s size more a = whole_within (again s) (number_again s) size false (is_wanted (sent_whole s) more) a.1
am_by turns.Part s size more a = part_within (again s) (number_again s) size (is_wanted (sent_segment s size) more) a.1
am_by turns.New s size more a =
    whole_within (new_slot s size) (next s.window) size true (is_wanted (sent_new s size) more)
    (new_size 2 size s.queue.sdus a.0 (omega (arith, a.1)))
am_by turns.Idle s size more a = tt
am_by turns.Stopped s size more a = tt
am_by turns.Small s size more a = tt
am_by turns.Shut s size more a = tt
am_by turns.Held s size more a = tt

pub am_within : (s : State) (size : ℕ) (held : Option ℕ) (more : Bool) → IsWithin size (answer s size held more)
am_within s size held more = am_by (turn s size held more) s size more (able s size held more)

-- A take uses a new number only where none that HARQ holds is too far back.
use Rattle.std.proofs.Common.{◌≡◌, ◌≤◌, ◌<◌, ℕ, ◌+◌, ◌-◌, nat_le, nat_lt, Bool, true, false, not, ◌&&◌, if◌then◌else◌}
use Rattle.std.proofs.Common.{Option, Some, None, List, [], ◌∷◌, length, length-append, refl, ap, ◌∙◌, arith}
use Rattle.std.proofs.lemmas.Bool.Decides.{nat_tests}
use Rattle.std.proofs.lemmas.Grind.{common_steps}
use Rattle.std.proofs.Math.ListN.{length-set}
use Rattle.bearer.specs.declared.flow.Flow.{Flow}
use Rattle.bearer.specs.declared.flow.Flow.TheVariants.{Tm, Um, Am}
use Rattle.bearer.specs.Taking.{number, after}
use Rattle.bearer.specs.Acknowledged.State.{State as AmState, has_more, work}
use Rattle.bearer.specs.Acknowledged.Taking.{answer as am_answer, data_size, feeding as am_feeding, status_told}
use Rattle.bearer.specs.Acknowledged.Taking.{has_prohibit, after_taking as am_after}
use Rattle.bearer_pdcp.specs.Telling.{number_of}
use Rattle.bearer.specs.Unacknowledged.State.{State as UmState}
use Rattle.bearer.specs.Unacknowledged.Taking.{Feeding, answer as um_answer, feeding as um_feeding, size_in}
use Rattle.bearer.specs.Unacknowledged.Taking.{after_taking as um_after}
use Rattle.pdcp_tx.specs.State.{offers}
use Rattle.rlc_am_tx.specs.declared.turn.Turn.{Turn}
use Rattle.rlc_am_tx.specs.declared.turn.Turn.TheVariants as turns
use Rattle.rlc_am_tx.specs.Machine.{State as AmSender, waits, is_empty, is_shut, is_held as am_is_held, turn as am_turn}
use Rattle.rlc_am_tx.specs.Machine.{answer_of, after_turn, with_poll, is_wanted, again, first_place, sent_whole}
use Rattle.rlc_am_tx.specs.Machine.{sent_segment, sent_new, new_slot}
use Rattle.law_rlc.proofs.AmSender.Carried.{polled-next}
use Rattle.law_rlc.proofs.AmSender.Least.{polled-window, new-room}
use Rattle.rlc_am_tx_window.specs.Sent.{all_wait, whole_size, rested, sent_part, next_stretch}
use Rattle.rlc_am_tx_window.specs.Window.{TxWindow, next}
use Rattle.rlc_queue.specs.Waiting.{HaveOctets}
use Rattle.rlc_um.specs.Transparent.{behind_first, after_take as tm_after}
use Rattle.rlc_um.specs.Sender.{Sender as UmSender, Turn as UmTurn, Gives, IsIdle, IsHeld, IsSmall, turn as um_turn}
use Rattle.rlc_um.specs.Sender.{answer as um_answer_of, after_turn as um_after_turn, taken as um_taken}
use Rattle.rlc_um.specs.Sender.{after_take as um_after_take, is_held as um_is_held, width_of}
use Rattle.law_node.specs.Holding.{next_number, width}
use Rattle.law_node.proofs.Ages.{Stands}
use Rattle.law_node.proofs.Waiting.{turn_by, all_grown, um_grown}

-- at least the lowest number that is held
abbrev pub IsAtLeast : Option ℕ → ℕ → Type 0
IsAtLeast None n = ⊥
IsAtLeast (Some low) n = low ≤ n

-- a take: what HARQ holds isn't too old behind it, nor is the number that it gives; without a number none is used
pub record Took (f : Flow) (held given : Option ℕ) (g : Flow) : Type 0 where
  pub young : (n : ℕ) → IsAtLeast held n → next_number f ≤ n + width f → next_number g ≤ n + width g
  pub new : (n : ℕ) → given ≡ Some n → Stands f → next_number g ≤ n + width g
  pub none : given ≡ None → (n : ℕ) → next_number f ≤ n + width f → next_number g ≤ n + width g
  pub stands : Stands f → Stands g

-- ---- an acknowledged sender

record SenderTook (s : AmSender) (held given : Option ℕ) (t : AmSender) : Type 0 where
  young : (n : ℕ) → IsAtLeast held n → next s.window ≤ n + 512 → next t.window ≤ n + 512
  new : (n : ℕ) → given ≡ Some n → length s.window.slots ≤ 512 → next t.window ≤ n + 512
  none : given ≡ None → next t.window ≡ next s.window
  few : length s.window.slots ≤ 512 → length t.window.slots ≤ 512

-- a PDU is sent again, or none is
took_again : (s t : AmSender) (held : Option ℕ) (number : ℕ) → s.window.base ≤ number → next t.window ≡ next s.window
    → length t.window.slots ≡ length s.window.slots → SenderTook s held (Some number) t
took_again s t held number from e l = record {
  young = λ n h le. omega (arith, e, le);
  new = λ n is few. let same : number ≡ n = cc in omega (arith, e, few, from, same);
  none = λ is. let no : Some number ≡ None = is in cc;
  few = λ few. omega (arith, l, few);
}

took_none : (s : AmSender) (held : Option ℕ) → SenderTook s held None s
took_none s held = record {
  young = λ n h le. le;
  new = λ n is few. let no : None ≡ Some n = is in cc;
  none = λ is. refl;
  few = λ few. few;
}

not_held : (held : Option ℕ) (n next' : ℕ) → am_is_held held next' ≡ false → IsAtLeast held n → next' + 1 ≤ n + 512
not_held None n next' e h = absurd h
not_held (Some low) n next' e h = grind (arith, nat_tests)

-- a new one comes behind HARQ's test
held_by : (idle failed waiting whole part shut held small empty : Bool)
    → (if idle then turns.Idle else turn_by failed waiting whole part shut held small empty) ≡ turns.New
    → held ≡ false
held_by idle failed waiting whole part shut false small empty e = refl
held_by true failed waiting whole part shut true small empty e = let no : turns.Idle ≡ turns.New = e in cc
held_by false true waiting whole part shut true small empty e = let no : turns.Stopped ≡ turns.New = e in cc
held_by false false true true part shut true small empty e = let no : turns.Whole ≡ turns.New = e in cc
held_by false false true false true shut true small empty e = let no : turns.Part ≡ turns.New = e in cc
held_by false false true false false shut true small empty e = let no : turns.Small ≡ turns.New = e in cc
held_by false false false whole part true true small empty e = let no : turns.Shut ≡ turns.New = e in cc
held_by false false false whole part false true small empty e = let no : turns.Held ≡ turns.New = e in cc

new_held : (s : AmSender) (size : ℕ) (held : Option ℕ) (more : Bool) → am_turn s size held more ≡ turns.New
    → am_is_held held (next s.window) ≡ false
unfolding am_turn
new_held s size held more e =
    held_by (not (waits s) && is_empty s && not more) s.failed (waits s)
    (all_wait (again s) && nat_le (whole_size (again s)) size) (nat_le 5 size) (is_shut s)
    (am_is_held held (next s.window)) (nat_lt size 3) (is_empty s) e

set_length : (b : Bool) (s t : AmSender) → length t.window.slots ≡ length s.window.slots
    → length (with_poll b t).window.slots ≡ length s.window.slots
set_length b s t e = ap (λ (w : TxWindow). length w.slots) (polled-window b t) ∙ e

took_by : (t : Turn) (s : AmSender) (size : ℕ) (held : Option ℕ) (more : Bool)
    → (t ≡ turns.New → am_is_held held (next s.window) ≡ false)
    → (t ≡ turns.New → length s.window.slots ≤ 512 → length s.window.slots < 512)
    → SenderTook s held (number_of (answer_of t s size more)) (after_turn t s size more)
unfolding answer_of after_turn
took_by turns.Whole s size held more h room =
    let l = length-set s.window.slots (first_place s) (rested (again s)) in
    let b = is_wanted (sent_whole s) more in
    took_again s (with_poll b (sent_whole s)) held (s.window.base + first_place s) (omega arith)
    (polled-next b (sent_whole s) ∙ ap (λ (n : ℕ). s.window.base + n) l) (set_length b s (sent_whole s) l)
took_by turns.Part s size held more h room =
    let l =
    length-set s.window.slots (first_place s)
    (sent_part (again s) (next_stretch (again s) size).from (next_stretch (again s) size).to) in
    let b = is_wanted (sent_segment s size) more in
    took_again s (with_poll b (sent_segment s size)) held (s.window.base + first_place s) (omega arith)
    (polled-next b (sent_segment s size) ∙ ap (λ (n : ℕ). s.window.base + n) l)
    (set_length b s (sent_segment s size) l)
took_by turns.New s size held more h room =
    let b = is_wanted (sent_new s size) more in
    let l = length-append s.window.slots (new_slot s size ∷ []) in
    let e : next (with_poll b (sent_new s size)).window ≡ next s.window + 1 =
    polled-next b (sent_new s size) ∙ omega arith in
    let k = ap (λ (w : TxWindow). length w.slots) (polled-window b (sent_new s size)) in
    record {
      young = λ n low le. omega (arith, e, not_held held n (next s.window) (h refl) low);
      new = λ n is few. let same : next s.window ≡ n = cc in omega (arith, e, same);
      none = λ is. let no : Some (next s.window) ≡ None = is in cc;
      few = λ few. omega (arith, l, k, room refl few);
    }
took_by turns.Idle s size held more h room = took_none s held
took_by turns.Stopped s size held more h room = took_none s held
took_by turns.Small s size held more h room = took_none s held
took_by turns.Shut s size held more h room = took_none s held
took_by turns.Held s size held more h room = took_none s held

am_takes : (b : AmState) (share : ℕ) (held : Option ℕ)
    → Took (Am b) held (number (Am b) share held) (after (Am b) share held)
unfolding number after am_answer am_after
am_takes b share held =
    let size = data_size b share in
    let begin = work b.pdcp b.tx (status_told b.pdcp.lcid (has_prohibit b) b.rx share) in
    let w = am_feeding b share held in
    let more = has_more w.pdcp in
    let t = am_turn w.tx size held more in
    let g = all_grown (offers b.pdcp.tx) size held begin in
    let n' : next w.tx.window ≡ next b.tx.window = ap (λ (k : TxWindow). next k) g.window in
    let l : length w.tx.window.slots ≡ length b.tx.window.slots = ap (λ (k : TxWindow). length k.slots) g.window in
    let k = took_by t w.tx size held more (new_held w.tx size held more) (new-room w.tx size held more) in
    record {
      young = λ n low le. k.young n low (omega (arith, n', le));
      new = λ n is few. k.new n is (omega (arith, l, few));
      none = λ is n le. omega (arith, k.none is, n', le);
      stands = λ few. k.few (omega (arith, l, few));
    }

-- ---- an unacknowledged sender

some_width : (bits : ℕ) → 1 ≤ width_of bits
some_width bits = grind (arith, nat_tests)

record UmTook (s : UmSender) (held given : Option ℕ) (t : UmSender) : Type 0 where
  bits : t.bits ≡ s.bits
  young : (n : ℕ) → IsAtLeast held n → s.next ≤ n + width_of s.bits → t.next ≤ n + width_of s.bits
  new : (n : ℕ) → given ≡ Some n → t.next ≤ n + width_of s.bits
  none : given ≡ None → t.next ≡ s.next

um_none : (s : UmSender) (held : Option ℕ) → UmTook s held None s
um_none s held = record {
  bits = refl;
  young = λ n low le. le;
  new = λ n is. let no : None ≡ Some n = is in cc;
  none = λ is. refl;
}

um_not_held : (held : Option ℕ) (n : ℕ) (s : UmSender) → um_is_held held s ≡ false → IsAtLeast held n
    → s.next + 1 ≤ n + width_of s.bits
um_not_held None n s e h = absurd h
um_not_held (Some low) n s e h = let lt : s.next < low + width_of s.bits = grind (arith, nat_tests) in
    omega (arith, lt, h)

um_by : (t : UmTurn) (s : UmSender) (size : ℕ) (held : Option ℕ) → (t ≡ Gives → um_is_held held s ≡ false)
    → UmTook s held (number_of (um_answer_of t s size)) (um_after_turn t s size)
um_by Gives s size held h = record {
  bits = refl;
  young = λ n low le. um_not_held held n s (h refl) low;
  new = λ n is. let same : s.next ≡ n = cc in omega (arith, same, some_width s.bits);
  none = λ is. let no : Some s.next ≡ None = is in cc;
}
um_by IsIdle s size held h = um_none s held
um_by IsHeld s size held h = um_none s held
um_by IsSmall s size held h = um_none s held

gives_held : (s : UmSender) (size : ℕ) (held : Option ℕ) → um_turn s size held ≡ Gives → um_is_held held s ≡ false
gives_held s size held e = grind (arith, common_steps, nat_tests)

um_takes : (b : UmState) (share : ℕ) (held : Option ℕ)
    → Took (Um b) held (number (Um b) share held) (after (Um b) share held)
unfolding number after um_answer um_after um_taken um_after_take
um_takes b share held =
    let size = size_in share in
    let begin : Feeding = record { pdcp = b.pdcp; tx = b.tx; events = [] } in
    let s = (um_feeding b share held).tx in
    let g = um_grown (offers b.pdcp.tx) size held begin in
    let k = um_by (um_turn s size held) s size held (gives_held s size held) in
    let w : width_of s.bits ≡ width_of b.tx.bits = ap width_of g.bits in
    let t = um_after_turn (um_turn s size held) s size in
    let v : width_of t.bits ≡ width_of s.bits = ap width_of k.bits in
    record {
      young = λ n low le. omega (arith, v, k.young n low (omega (arith, w, g.next', le)));
      new = λ n is few. omega (arith, v, k.new n is);
      none = λ is n le. omega (arith, v, w, g.next', k.none is, le);
      stands = λ few. tt;
    }

-- ---- a transparent sender: what waits is the others, or all

behind_by : (next size : ℕ) (sdu : List ℕ) (more : List (List ℕ)) (t : Bool) → nat_lt size (length sdu) ≡ t
    → HaveOctets (sdu ∷ more) → HaveOctets (behind_first next size (sdu ∷ more)).waiting
behind_by next size sdu more true e h = rw e h
behind_by next size sdu more false e h = rw e h.1

pub behind_octets : (next size : ℕ) (sdus : List (List ℕ)) → HaveOctets sdus
    → HaveOctets (behind_first next size sdus).waiting
behind_octets next size [] h = tt
behind_octets next size (sdu ∷ more) h = behind_by next size sdu more (nat_lt size (length sdu)) refl h

pub takes : (f : Flow) (share : ℕ) (held : Option ℕ) → Took f held (number f share held) (after f share held)
unfolding number after tm_after
takes (Tm b) share held = record {
  young = λ n low le. omega arith;
  new = λ n is few. omega arith;
  none = λ is n le. omega arith;
  stands = λ h. behind_octets b.next (share - 3) b.waiting h;
}
takes (Um b) share held = um_takes b share held
takes (Am b) share held = am_takes b share held

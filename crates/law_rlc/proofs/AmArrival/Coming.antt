-- A data PDU that comes brings just the places of the stretch that it tells.
use Rattle.std.proofs.Common.{◌≡◌, ◌<◌, ◌≤◌, ℕ, ◌+◌, ◌%◌, Bool, true, false, ◌&&◌, ◌||◌, ◌==◌, List, [], ◌∷◌, ◌++◌}
use Rattle.std.proofs.Common.{length, slice_get, slice_range, slice_index_or, Some, Ok, nat_le, nat_lt, refl, ap, sym}
use Rattle.std.proofs.Common.{subst, ◌∙◌, arith}
use Rattle.std.proofs.lemmas.Bool.Decides.{nat_tests}
use Rattle.rlc_pdu.specs.declared.Landed.{Landed}
use Rattle.rlc_pdu.specs.declared.Landed.TheVariants.{Kept, Repeat, Outside, Clash}
use Rattle.rlc_pdu.specs.Pdus.{AmdPdu, Payload}
use Rattle.rlc_pdu.specs.Reading.{am_at}
use Rattle.rlc_am_rx_window.specs.Held.{Held}
use Rattle.rlc_am_rx_window.specs.Piece.{piece_of, end_of, so_of, octets_in, begins_in, ends_in}
use Rattle.rlc_am_rx_window.specs.Window.{offset_of, slot_at, is_repeat, is_clash}
use Rattle.rlc_am_rx_window.proofs.PieceLemmas.{length_data}
use Rattle.rlc_am_rx.specs.State.{State}
use Rattle.rlc_am_rx.specs.Machine.{landed}
use Rattle.law_rlc.specs.AmSender.Octets.{Place, segment_of}
use Rattle.law_rlc.specs.AmReceiver.Run.{Call, Arrive, Up, Write, ExpireReorder, ExpireProhibit, TickReorder}
use Rattle.law_rlc.specs.AmReceiver.Run.{TickProhibit, World, Came, begin, place_has_come, kept_after, kept_with}
use Rattle.law_rlc.specs.AmReceiver.Run.{number_read}
use Rattle.law_rlc.specs.AmReceiver.Run.{happens as heard_by, run_am_receiver}
use Rattle.law_rlc.specs.AmReceiver.Stream.{IsPart, NoneClashes}
use Rattle.law_rlc.proofs.AmReceiver.Clash.{none_clashes}
use Rattle.law_rlc.specs.AmPair.Fields.{cells_of, field_of}
use Rattle.law_rlc.specs.AmPair.Flow.{Copy, Flow, sender, receiver, receives, data_comes, data_read}
use Rattle.law_rlc.proofs.AmPair.Fields.{sent-field, are-fields}
use Rattle.law_rlc.specs.AmPair.Numbers.{IsOrdered as AreInOrder}
use Rattle.law_rlc.proofs.AmPair.Hearing.{in-order, comes-sound}
use Rattle.law_rlc.proofs.AmPair.Parts.{cells-length, stretch-part}
use Rattle.law_rlc.proofs.AmPair.Reading.{read_as, stretch-read}
use Rattle.law_rlc.proofs.AmPair.Sending.{sent-number}
use Rattle.law_rlc.proofs.AmPair.Sound.{IsTrueCopy, IsSound}
use Rattle.law_rlc.proofs.AmArrival.Kept.{IsNear, read_in, far_below, Landing, landing_is, repeat_held, holds_range}
use Rattle.law_rlc.proofs.AmArrival.Kept.{keeps_of, kept_below}

-- ---- a copy that is under way, as it is read

pub record IsRead (sent : List (List Place)) (number : ℕ) (octets : List ℕ) : Type 0 where
  pub pdu : AmdPdu
  pub read : am_at octets ≡ Ok (Payload pdu)
  pub sn : pdu.sn ≡ number % 1024
  pub part : IsPart (cells_of (slice_index_or sent number [])) (piece_of pdu)

pub reads_copy : (f : Flow) (c : Copy) → IsSound f → IsTrueCopy (sender f).past.sent c
    → IsRead (sender f).past.sent c.number c.octets
reads_copy f c h q =
    let ps = slice_index_or (sender f).past.sent c.number [] in
    let aired = h.aired c.number q.known in
    record {
      pdu = read_as c.number q.poll (segment_of q.from q.to (length ps)) (slice_range ps q.from q.to);
      read = ap am_at q.is ∙ stretch-read c.number q.poll ps q.from q.to aired q.some q.within;
      sn = refl;
      part = stretch-part c.number q.poll ps q.from q.to aired q.some q.within;
    }

-- its octets
pub cells_are : (p : AmdPdu) → length (piece_of p).cells ≡ octets_in p.elements
cells_are p = length_data (begins_in p.fi) (ends_in p.fi) p.elements

pub part_end : (ps : List Place) (p : AmdPdu) → IsPart (cells_of ps) (piece_of p)
    → so_of p.segment + octets_in p.elements ≤ length ps
part_end ps p part =
    let l = cells-length ps in
    let c = cells_are p in
    by (piece_of p).last refl l c
  where
    by : (b : Bool) → (piece_of p).last ≡ b → length (cells_of ps) ≡ length ps
        → length (piece_of p).cells ≡ octets_in p.elements
        → so_of p.segment + octets_in p.elements ≤ length ps
    by true e l c = let x = part.last e in omega (arith, x, l, c)
    by false e l c = let x = part.on e in omega (arith, x, l, c)

-- ---- it comes

abbrev pub brings : AmdPdu → ℕ → ℕ → ℕ → Bool
brings p number n i = (number == n) && (nat_le (so_of p.segment) i && nat_lt i (so_of p.segment + octets_in p.elements))

-- nothing clashes
last_clashes : (cs : List Call) (p : AmdPdu) (w : World) → NoneClashes w.state (cs ++ Arrive p ∷ [])
    → landed (run_am_receiver cs w).state p ≡ Clash → ⊥
last_clashes [] p w n e = n.0 e
last_clashes (Arrive q ∷ cs) p w n e = last_clashes cs p (heard_by w (Arrive q)) n.1 e
last_clashes (Up ∷ cs) p w n e = last_clashes cs p (heard_by w Up) n e
last_clashes (Write ∷ cs) p w n e = last_clashes cs p (heard_by w Write) n e
last_clashes (ExpireReorder ∷ cs) p w n e = last_clashes cs p (heard_by w ExpireReorder) n e
last_clashes (ExpireProhibit ∷ cs) p w n e = last_clashes cs p (heard_by w ExpireProhibit) n e
last_clashes (TickReorder ∷ cs) p w n e = last_clashes cs p (heard_by w TickReorder) n e
last_clashes (TickProhibit ∷ cs) p w n e = last_clashes cs p (heard_by w TickProhibit) n e

pub is_received : (f : Flow) (octets : List ℕ) (p : AmdPdu) → am_at octets ≡ Ok (Payload p) → (number : ℕ)
    → data_comes f (Some (record { number = number; octets = octets })) ≡ receives f (Arrive p)
is_received f octets p read number = ap (λ r. data_read f r) read

pub never_clashes : (f : Flow) (c : Copy) (p : AmdPdu) → IsSound f → IsTrueCopy (sender f).past.sent c
    → am_at c.octets ≡ Ok (Payload p) → landed (receiver f).state p ≡ Clash → ⊥
never_clashes f c p h q read e =
    let sent = (sender f).past.sent in
    let ok : IsSound (receives f (Arrive p)) =
    subst IsSound (is_received f c.octets p read c.number) (comes-sound f c q h) in
    last_clashes f.heard p (begin f.receiving)
    (none_clashes (field_of sent) f.receiving (f.heard ++ Arrive p ∷ []) (are-fields sent h.aired)
    (ok.honest (field_of sent) (sent-field sent))) e

pub is_near : (f : Flow) (c : Copy) (p : AmdPdu) → IsSound f → IsTrueCopy (sender f).past.sent c
    → p.sn ≡ c.number % 1024 → IsNear (receiver f).state p c.number
is_near f c p h q sn =
    let o : AreInOrder f = in-order f h in
    let t = h.top in
    let y = q.young in
    let k = q.known in
    let n = sent-number f h in
    let a = o.bound in
    let b = o.highest in
    let l = o.least in
    let w = o.window in
    record { sn = sn; from = omega (arith, a, b, t, y); below = omega (arith, l, w, n, k) }

-- what is kept then
pub keeps_brings : (f : Flow) (c : Copy) (p : AmdPdu) → IsSound f → IsTrueCopy (sender f).past.sent c
    → am_at c.octets ≡ Ok (Payload p) → p.sn ≡ c.number % 1024
    → IsPart (cells_of (slice_index_or (sender f).past.sent c.number [])) (piece_of p) → (n i : ℕ)
    → i < length (slice_index_or (sender f).past.sent n [])
    → place_has_come (kept_with (receiver f) (Arrive p)) n i
    ≡ (brings p c.number n i || place_has_come (receiver f).kept n i)
keeps_brings f c p h q read sn part n i lt = by (landed s p) refl
  where
    s : State
    s = (receiver f).state

    kept : List Came
    kept = (receiver f).kept

    at : ℕ
    at = offset_of (receiver f).state.window.front p.sn

    slots : List Held
    slots = (receiver f).state.window.slots

    near : IsNear (receiver f).state p c.number
    near = is_near f c p h q sn

    size : length (piece_of p).cells ≡ octets_in p.elements
    size = cells_are p

    tests : (l : Landed) → landed (receiver f).state p ≡ l
        → Landing (nat_le 512 at) (is_repeat (slice_get slots at) (piece_of p))
        (is_clash (slice_get slots at) (piece_of p)) l
    tests l e =
        subst (λ (x : Landed). Landing (nat_le 512 at) (is_repeat (slice_get slots at) (piece_of p))
        (is_clash (slice_get slots at) (piece_of p)) x) e
        (landing_is (nat_le 512 at) (is_repeat (slice_get slots at) (piece_of p))
        (is_clash (slice_get slots at) (piece_of p)))

    here : (b : Bool) → (c.number == n) ≡ b → (c.number ≡ n → place_has_come kept n i ≡ true)
        → place_has_come kept n i ≡ (brings p c.number n i || place_has_come kept n i)
    here true e all =
        let same : c.number ≡ n = grind (arith, nat_tests, e) in
        let a = all same in
        grind (arith, nat_tests, a)
    here false e all = grind (arith, nat_tests, e)

    by : (l : Landed) → landed (receiver f).state p ≡ l
        → place_has_come (kept_after l (receiver f).state p (receiver f).kept) n i
        ≡ (brings p c.number n i || place_has_come (receiver f).kept n i)
    by Kept e =
        let t = (tests Kept e).inside (λ no. cc) in
        let off : at < 512 = grind (arith, nat_tests, t) in
        let is : number_read s p ≡ c.number = read_in s p c.number near off in
        let ends : end_of (piece_of p) ≡ so_of p.segment + octets_in p.elements =
        ap (λ (k : ℕ). so_of p.segment + k) size in
        ap (λ (m : ℕ). ((m == n) && (nat_le (so_of p.segment) i && nat_lt i (end_of (piece_of p))))
        || place_has_come kept n i) is
        ∙ ap (λ (m : ℕ). ((c.number == n) && (nat_le (so_of p.segment) i && nat_lt i m)) || place_has_come kept n i)
        ends
    by Repeat e =
        let t = (tests Repeat e).inside (λ no. cc) in
        let off : at < 512 = grind (arith, nat_tests, t) in
        let is : number_read s p ≡ c.number = read_in s p c.number near off in
        let held = repeat_held slots at (piece_of p) part.some ((tests Repeat e).again refl) in
        let all : c.number ≡ n → so_of p.segment ≤ i → i < so_of p.segment + octets_in p.elements
        → place_has_come kept n i ≡ true = λ same a b.
        let there' = holds_range (slot_at slots at).cells (so_of p.segment) (length (piece_of p).cells) i held a
        (omega (arith, b, size)) in
        let number : s.window.front + at ≡ n = is ∙ same in
        ap (λ (m : ℕ). place_has_come kept m i) (sym number)
        ∙ (sym (((keeps_of f).agrees.slots_match at).cells i) ∙ there') in
        some (c.number == n) refl all
      where
        some : (b : Bool) → (c.number == n) ≡ b
            → (c.number ≡ n → so_of p.segment ≤ i → i < so_of p.segment + octets_in p.elements
            → place_has_come kept n i ≡ true)
            → place_has_come kept n i ≡ (brings p c.number n i || place_has_come kept n i)
        some true e all =
            let same : c.number ≡ n = grind (arith, nat_tests, e) in
            let a = all same in
            grind (arith, nat_tests, a)
        some false e all = grind (arith, nat_tests, e)
    by Outside e =
        let t = (tests Outside e).outside refl in
        let off : 512 ≤ at = grind (arith, nat_tests, t) in
        let below : c.number < s.window.front = far_below s p c.number near off in
        here (c.number == n) refl (λ same. kept_below f n i h (omega (arith, below, same)) lt)
    by Clash e = absurd (never_clashes f c p h q read e)

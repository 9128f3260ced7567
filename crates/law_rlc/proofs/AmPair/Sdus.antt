-- What goes up are the SDUs that were offered.
use Rattle.std.proofs.Common.{◌≡◌, ◌<◌, ◌≤◌, inl, inr, ℕ, suc, zero, Bool, true, false, List, [], ◌∷◌, ◌++◌, length}
use Rattle.std.proofs.Common.{take, drop, Option, Some, None, slice_index_or, refl, ap, sym, subst, ◌∙◌, arith}
use Rattle.std.proofs.Common.{append_assoc, drop-cons}
use Rattle.std.proofs.lemmas.Bool.{cases_lt}
use Rattle.std.proofs.lemmas.List.{append-nil, take-append-drop}
use Rattle.rlc_queue.specs.Waiting.{HaveOctets}
use Rattle.law_rlc.specs.AmSender.Octets.{Place, places}
use Rattle.law_rlc.proofs.AmSender.Dealing.{stream as places_of}
use Rattle.rlc_am_rx_window.specs.Cells.{Cell, leading}
use Rattle.rlc_am_rx_window.specs.Held.{Held}
use Rattle.rlc_am_rx_window.specs.Joined.{Joined, empty, opened, extended, some_sdu, closed, with_place, joined}
use Rattle.rlc_am_rx_window.specs.Window.{top, slot_at}
use Rattle.rlc_am_rx.specs.State.{State}
use Rattle.law_rlc.specs.AmReceiver.Run.{begin}
use Rattle.law_rlc.specs.AmReceiver.Stream.{flow, initial, stream, stream_to, somes, IsInSequence}
use Rattle.law_rlc.proofs.AmReceiver.Finish.{same_state}
use Rattle.law_rlc.proofs.AmReceiver.InSequence.{Flows, flow-flows, initial-flows, joined_append, somes_append}
use Rattle.law_rlc.proofs.AmReceiver.InSequence.{in_sequence}
use Rattle.law_rlc.specs.AmPair.Flow.{Flow, sender, receiver}
use Rattle.law_rlc.specs.AmPair.Fields.{cell_of, cells_of, field_of}
use Rattle.law_rlc.specs.AmPair.Sdus.{offered, handed_up, ready}
use Rattle.law_words.specs.Lists.{AreFirstSdus}
use Rattle.law_rlc.proofs.AmPair.Sound.{Agree, IsSound}
use Rattle.law_rlc.proofs.AmPair.Fields.{sent-field, are-fields}
use Rattle.law_rlc.proofs.AmPair.Whole.{together, whole-stream, have-octets}

-- ---- SDUs of the octets that were offered

pub cells-append : (ps qs : List Place) → cells_of (ps ++ qs) ≡ cells_of ps ++ cells_of qs
cells-append [] qs = refl
cells-append (p ∷ ps) qs = ap (λ (cs : List Cell). cell_of p ∷ cs) (cells-append ps qs)

one-sdu : (b : Bool) (x os : List ℕ) (r : List (List ℕ)) → 0 < length x
    → joined (record { ready = r; part = Some os }) (somes (cells_of (places b x)))
    ≡ record { ready = r ++ (os ++ x) ∷ []; part = Some [] }
one-sdu b [] os r some = absurd (omega arith)
one-sdu b (o ∷ []) os r some = refl
one-sdu b (o ∷ y ∷ ys) os r some =
    one-sdu false (y ∷ ys) (os ++ o ∷ []) r (omega arith)
    ∙ ap (λ (x : List ℕ). record { ready = r ++ x ∷ []; part = Some [] }) (append_assoc os (o ∷ []) (y ∷ ys))

all-sdus : (xs : List (List ℕ)) → HaveOctets xs → (r : List (List ℕ))
    → joined (record { ready = r; part = Some [] }) (somes (cells_of (places_of false xs)))
    ≡ record { ready = r ++ xs; part = Some [] }
all-sdus [] h r = ap (λ (s : List (List ℕ)). record { ready = s; part = Some [] }) (sym (append-nil r))
all-sdus (x ∷ xs) h r =
    ap (λ (cs : List (Option Cell)). joined (record { ready = r; part = Some [] }) cs)
    (ap somes (cells-append (places true x) (places_of false xs))
    ∙ somes_append (cells_of (places true x)) (cells_of (places_of false xs)))
    ∙ (sym (joined_append (record { ready = r; part = Some [] }) (somes (cells_of (places true x)))
    (somes (cells_of (places_of false xs))))
    ∙ (ap (λ (j : Joined). joined j (somes (cells_of (places_of false xs)))) (one-sdu true x [] r h.0)
    ∙ (all-sdus xs h.1 (r ++ x ∷ [])
    ∙ ap (λ (s : List (List ℕ)). record { ready = s; part = Some [] }) (append_assoc r (x ∷ []) xs))))

-- what is ready stays so
pub front-itself : (xs : List (List ℕ)) → AreFirstSdus xs xs
front-itself xs = record { rest = []; is = sym (append-nil xs) }

pub front-more : (xs ys zs : List (List ℕ)) → AreFirstSdus xs ys → AreFirstSdus ys zs → AreFirstSdus xs zs
front-more xs ys zs f g =
    record {
      rest = f.rest ++ g.rest;
      is = g.is ∙ (ap (λ (s : List (List ℕ)). s ++ g.rest) f.is ∙ append_assoc xs f.rest g.rest);
    }

place-grows : (j : Joined) (x : Option Cell) → AreFirstSdus j.ready (with_place j x).ready
place-grows j None = front-itself j.ready
place-grows j (Some c) = by c.ends (extended (opened j.part c.begins) (c.octet ∷ []))
  where
    by : (b : Bool) (part : Option (List ℕ)) → AreFirstSdus j.ready (closed b j.ready part).ready
    by true part = record { rest = some_sdu part; is = refl }
    by false part = front-itself j.ready

pub joined-grows : (j : Joined) (xs : List (Option Cell)) → AreFirstSdus j.ready (joined j xs).ready
joined-grows j [] = front-itself j.ready
joined-grows j (x ∷ xs) =
    front-more j.ready (with_place j x).ready (joined (with_place j x) xs).ready (place-grows j x)
    (joined-grows (with_place j x) xs)

-- ---- the fields in sequence are the first octets that were offered

pub stream-split : (sent : List (List Place)) (field : ℕ → List Cell) (n : ℕ) → Agree sent field → n ≤ length sent
    → cells_of (together sent) ≡ stream field n ++ cells_of (together (drop n sent))
stream-split sent field zero agree le = refl
stream-split sent field (suc n) agree le =
    let next : drop n sent ≡ slice_index_or sent n [] ∷ drop (suc n) sent = drop-cons sent n [] (omega arith) in
    stream-split sent field n agree (omega arith)
    ∙ (ap (λ (pss : List (List Place)). stream field n ++ cells_of (together pss)) next
    ∙ (ap (λ (cs : List Cell). stream field n ++ cs)
    (cells-append (slice_index_or sent n []) (together (drop (suc n) sent))
    ∙ ap (λ (cs : List Cell). cs ++ cells_of (together (drop (suc n) sent))) (sym (agree n (omega arith))))
    ∙ sym (append_assoc (stream field n) (field n) (cells_of (together (drop (suc n) sent))))))

-- up to a place of a number
pub record IsBegun (begun all : List Cell) : Type 0 where
  pub rest : List Cell
  pub is : all ≡ begun ++ rest

to-split : (sent : List (List Place)) (field : ℕ → List Cell) (n given : ℕ) → Agree sent field → n ≤ length sent
    → (n ≡ length sent → given ≡ 0) → IsBegun (stream_to field n given) (cells_of (together sent))
to-split sent field n given agree le none = elim (cases_lt n (length sent)) [
  | inl lt ↦ record {
    rest = drop given (field n) ++ cells_of (together (drop (suc n) sent));
    is = stream-split sent field (suc n) agree (omega arith)
        ∙ (append_assoc (stream field n) (field n) (cells_of (together (drop (suc n) sent)))
        ∙ (ap (λ (cs : List Cell). stream field n ++ (cs ++ cells_of (together (drop (suc n) sent))))
        (sym (take-append-drop given (field n)))
        ∙ (ap (λ (cs : List Cell). stream field n ++ cs)
        (append_assoc (take given (field n)) (drop given (field n)) (cells_of (together (drop (suc n) sent))))
        ∙ sym (append_assoc (stream field n) (take given (field n))
        (drop given (field n) ++ cells_of (together (drop (suc n) sent)))))));
  }
  | inr ge ↦
      let z : given ≡ 0 = none (omega arith) in
      record {
        rest = cells_of (together (drop n sent));
        is = stream-split sent field n agree le
            ∙ ap (λ (cs : List Cell). cs ++ cells_of (together (drop n sent)))
            (sym (append-nil (stream field n)) ∙ ap (λ (k : ℕ). stream field n ++ take k (field n)) (sym z));
      }
]

-- ---- along a flow

-- the receiver's run, with what went up
pub heard-flows : (f : Flow) → IsSound f → Flows (field_of (sender f).past.sent) (flow f.heard (initial f.receiving))
heard-flows f h =
    flow-flows (field_of (sender f).past.sent) f.heard (initial f.receiving)
    (h.honest (field_of (sender f).past.sent) (sent-field (sender f).past.sent))
    (initial-flows (field_of (sender f).past.sent) f.receiving (are-fields (sender f).past.sent h.aired))

pub heard-state : (f : Flow) → (flow f.heard (initial f.receiving)).state ≡ (receiver f).state
heard-state f = same_state f.heard (initial f.receiving) (begin f.receiving) refl

pub given-none : (slots : List Held) (given : ℕ) → length slots ≡ 0 → given ≡ length (leading (slot_at slots 0).cells)
    → given ≡ 0
given-none [] given e g = g
given-none (s ∷ ss) given e g = absurd (omega arith)

pub begun-split : (f : Flow) → IsSound f
    → IsBegun (stream_to (field_of (sender f).past.sent) (flow f.heard (initial f.receiving)).state.window.front
    (flow f.heard (initial f.receiving)).state.window.given) (cells_of (together (sender f).past.sent))
begun-split f h =
    to-split (sender f).past.sent (field_of (sender f).past.sent) s.window.front s.window.given
    (sent-field (sender f).past.sent) (omega (arith, high))
    (λ e. given-none s.window.slots s.window.given (omega (arith, high, e)) (heard-flows f h).given)
  where
    s : State
    s = (flow f.heard (initial f.receiving)).state

    high : top s.window ≤ length (sender f).past.sent
    high = subst (λ (t : State). top t.window ≤ length (sender f).past.sent) (sym (heard-state f)) h.top

-- what is put together of them is what was offered first
pub begun-front : (f : Flow) → IsSound f → (begun : List Cell)
    → IsBegun begun (cells_of (together (sender f).past.sent))
    → AreFirstSdus (joined empty (somes begun)).ready (offered f)
begun-front f h begun b =
    let all : cells_of (places_of false (offered f)) ≡ begun ++ (b.rest ++ cells_of (sender f).past.unsent) =
    ap cells_of (sym (whole-stream f))
    ∙ (cells-append (together (sender f).past.sent) (sender f).past.unsent
    ∙ (ap (λ (cs : List Cell). cs ++ cells_of (sender f).past.unsent) b.is
    ∙ append_assoc begun b.rest (cells_of (sender f).past.unsent))) in
    let end' : (joined (joined empty (somes begun)) (somes (b.rest ++ cells_of (sender f).past.unsent))).ready
    ≡ offered f =
    ap (λ (j : Joined). j.ready) (joined_append empty (somes begun) (somes (b.rest ++ cells_of (sender f).past.unsent))
    ∙ (ap (λ (cs : List (Option Cell)). joined empty cs)
    (sym (somes_append begun (b.rest ++ cells_of (sender f).past.unsent)) ∙ ap somes (sym all))
    ∙ all-sdus (offered f) (have-octets f.sent h.offered) [])) in
    subst (λ (xs : List (List ℕ)). AreFirstSdus (joined empty (somes begun)).ready xs) end'
    (joined-grows (joined empty (somes begun)) (somes (b.rest ++ cells_of (sender f).past.unsent)))

pub hands-up : (f : Flow) → IsSound f → AreFirstSdus (handed_up f ++ ready f) (offered f)
hands-up f h =
    let q : IsInSequence (field_of (sender f).past.sent) (flow f.heard (initial f.receiving)) =
    in_sequence (field_of (sender f).past.sent) f.receiving f.heard (are-fields (sender f).past.sent h.aired)
    (h.honest (field_of (sender f).past.sent) (sent-field (sender f).past.sent)) in
    subst (λ (xs : List (List ℕ)). AreFirstSdus xs (offered f)) (sym q.sdus) (begun-front f h _ (begun-split f h))

-- What comes up at the end are the SDUs that were offered and have arrived.
use Rattle.std.proofs.Common.{◌≡◌, ℕ, suc, zero, ◌+◌, Bool, true, false, List, [], ◌∷◌, ◌++◌, map, drop, Option, Some}
use Rattle.std.proofs.Common.{refl, ap, sym, subst, ◌∙◌, append_assoc, if◌then◌else◌}
use Rattle.std.proofs.lemmas.List.{append-nil}
use Rattle.rlc_am_rx_window.specs.Cells.{Cell}
use Rattle.rlc_am_rx_window.specs.Joined.{empty, closed, joined}
use Rattle.rlc_am_rx_window.specs.Window.{top}
use Rattle.law_rlc.specs.AmReceiver.Finish.{Place, marked, places, cut, octets_of, arrived_in, IsFinished}
use Rattle.law_rlc.specs.AmReceiver.Stream.{flow, initial, stream, somes}
use Rattle.law_rlc.proofs.AmReceiver.Finish.{finishes}
use Rattle.law_rlc.proofs.AmReceiver.InSequence.{somes_append}
use Rattle.law_rlc.specs.AmPair.Flow.{Flow, sender, receiver}
use Rattle.law_rlc.specs.AmPair.Fields.{cells_of, field_of}
use Rattle.law_rlc.specs.AmPair.Sdus.{offered}
use Rattle.law_words.specs.Lists.{AreFirstSdus}
use Rattle.law_rlc.specs.AmPair.Seen.{seen, GivesTheWhole}
use Rattle.law_rlc.proofs.AmPair.Sound.{IsSound}
use Rattle.law_rlc.proofs.AmPair.Fields.{sent-field}
use Rattle.law_rlc.proofs.AmPair.Whole.{together, flow-stream}
use Rattle.law_rlc.proofs.AmPair.Sdus.{stream-split, begun-front}

-- all places, whether or not they have arrived
abbrev pub as_sent : List Place → List (Option Cell)
as_sent ps = map (λ (p : Place). Some p.cell) ps

pub sent-append : (ps qs : List Place) → as_sent (ps ++ qs) ≡ as_sent ps ++ as_sent qs
sent-append [] qs = refl
sent-append (p ∷ ps) qs = ap (λ (cs : List (Option Cell)). Some p.cell ∷ cs) (sent-append ps qs)

pub marked-sent : (cells : List Cell) (come : ℕ → Bool) (i : ℕ) → as_sent (marked cells come i) ≡ somes cells
marked-sent [] come i = refl
marked-sent (c ∷ cs) come i = ap (λ (ds : List (Option Cell)). Some c ∷ ds) (marked-sent cs come (i + 1))

pub places-sent : (field : ℕ → List Cell) (come : ℕ → ℕ → Bool) (n : ℕ)
    → as_sent (places field come n) ≡ somes (stream field n)
places-sent field come zero = refl
places-sent field come (suc n) =
    sent-append (places field come n) (marked (field n) (come n) 0)
    ∙ (ap (λ (cs : List (Option Cell)). cs ++ as_sent (marked (field n) (come n) 0)) (places-sent field come n)
    ∙ (ap (λ (cs : List (Option Cell)). somes (stream field n) ++ cs) (marked-sent (field n) (come n) 0)
    ∙ sym (somes_append (stream field n) (field n))))

octets-push : (ps : List Place) (p : Place) → octets_of (ps ++ p ∷ []) ≡ octets_of ps ++ p.cell.octet ∷ []
octets-push [] p = refl
octets-push (q ∷ ps) p = ap (λ (os : List ℕ). q.cell.octet ∷ os) (octets-push ps p)

-- the SDUs that end among them
pub cut-ready : (ps current : List Place) (r : List (List ℕ))
    → (joined (record { ready = r; part = Some (octets_of current) }) (as_sent ps)).ready
    ≡ r ++ map octets_of (cut current ps)
cut-ready [] current r = sym (append-nil r)
cut-ready (p ∷ ps) current r =
    by p.cell.ends (cut-ready ps [] (r ++ (octets_of current ++ p.cell.octet ∷ []) ∷ []))
    (cut-ready ps (current ++ p ∷ []) r)
  where
    by : (b : Bool)
        → (joined (record { ready = r ++ (octets_of current ++ p.cell.octet ∷ []) ∷ []; part = Some [] })
        (as_sent ps)).ready ≡ (r ++ (octets_of current ++ p.cell.octet ∷ []) ∷ []) ++ map octets_of (cut [] ps)
        → (joined (record { ready = r; part = Some (octets_of (current ++ p ∷ [])) }) (as_sent ps)).ready
        ≡ r ++ map octets_of (cut (current ++ p ∷ []) ps)
        → (joined (closed b r (Some (octets_of current ++ p.cell.octet ∷ []))) (as_sent ps)).ready
        ≡ r ++ map octets_of (if b then (current ++ p ∷ []) ∷ cut [] ps else cut (current ++ p ∷ []) ps)
    by true ended on =
        ended
        ∙ (append_assoc r ((octets_of current ++ p.cell.octet ∷ []) ∷ []) (map octets_of (cut [] ps))
        ∙ ap (λ (x : List ℕ). r ++ x ∷ map octets_of (cut [] ps)) (sym (octets-push current p)))
    by false ended on =
        ap (λ (x : List ℕ). (joined (record { ready = r; part = Some x }) (as_sent ps)).ready)
        (sym (octets-push current p)) ∙ on

pub gives-the-whole : (f : Flow) → IsSound f → GivesTheWhole f
gives-the-whole f h =
    let w : IsFinished (field_of (sender f).past.sent) (receiver f) (flow f.heard (initial f.receiving)).gone =
    finishes (field_of (sender f).past.sent) f.receiving f.heard (flow-stream f h)
    (h.honest (field_of (sender f).past.sent) (sent-field (sender f).past.sent)) in
    let cells : (joined empty (somes (stream (field_of (sender f).past.sent) (top (receiver f).state.window)))).ready
    ≡ map octets_of (seen f) =
    ap (λ (cs : List (Option Cell)). (joined empty cs).ready)
    (sym (places-sent (field_of (sender f).past.sent) (arrived_in (receiver f)) (top (receiver f).state.window)))
    ∙ cut-ready (places (field_of (sender f).past.sent) (arrived_in (receiver f)) (top (receiver f).state.window)) []
    [] in
    record {
      first = subst (λ (xs : List (List ℕ)). AreFirstSdus xs (offered f)) cells
          (begun-front f h (stream (field_of (sender f).past.sent) (top (receiver f).state.window)) (record {
            rest = cells_of (together (drop (top (receiver f).state.window) (sender f).past.sent));
            is = stream-split (sender f).past.sent (field_of (sender f).past.sent) (top (receiver f).state.window)
                (sent-field (sender f).past.sent) h.top;
          }));
      whole = w.sdus;
    }

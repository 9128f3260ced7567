-- The streams of a sender, as SDUs are offered and PDUs are written.
use Rattle.std.proofs.Common.{◌≡◌, ◌≤◌, ℕ, zero, suc, ◌-◌, Bool, true, List, [], ◌∷◌, ◌++◌, length, map, take, drop}
use Rattle.std.proofs.Common.{slice_range, slice_index_or, if◌then◌else◌, refl, ap, sym, subst, ◌∙◌, append_assoc}
use Rattle.std.specs.List.{concat}
use Rattle.std.proofs.lemmas.List.{append-nil, map-append, take-append-drop, length-map, length-take-le}
use Rattle.std.proofs.lemmas.List.Folds.{concat-append}
use Rattle.rlc_am_tx.specs.Machine.{State}
use Rattle.journal_stream.specs.OctetEvents.{OctetEvent, PduTaken, FieldWritten, fields, written, AreNext}
use Rattle.journal_stream.specs.OctetEvents.{AreOf}
use Rattle.journal_stream.specs.SentOctets.{has_next}
use Rattle.journal_stream.specs.Laws.{kept_of}
use Rattle.journal_stream.proofs.SentTold.{told}
use Rattle.journal_sent.specs.SentPdus.{histories, written_in}
use Rattle.law_rlc.specs.AmSender.Run.{Offer}
use Rattle.law_rlc.specs.AmSender.Octets.{Place, Octets, places, sent_with, octets_after}
use Rattle.law_sent.specs.Senders.{IsStreamOf}

pub concat_end : (xs : List (List ℕ)) (x : List ℕ) → concat (xs ++ x ∷ []) ≡ concat xs ++ x
concat_end xs x = concat-append xs (x ∷ []) ∙ ap (λ (ys : List ℕ). concat xs ++ ys) (append-nil x)

-- what is written is the fields
pub written_is : (es : List OctetEvent) → written es ≡ concat (fields es)
written_is [] = refl
written_is (PduTaken pdu ∷ es) = written_is es
written_is (FieldWritten field ∷ es) =
    ap (λ (l : List ℕ). l ++ field) (written_is es) ∙ sym (concat_end (fields es) field)

-- ---- a word of each place: its octet, or its mark

module _ (word : Place → ℕ) where
  abbrev put : List Place → List ℕ
  put ps = map word ps

  pub offer_goes : (s : State) (sdu : List ℕ) (o : Octets) (es : List OctetEvent) (pdu : List ℕ)
      → map word (places true sdu) ≡ pdu → IsStreamOf (λ ps. map word ps) o es
      → IsStreamOf (λ ps. map word ps) (octets_after s (Offer sdu) o) (PduTaken pdu ∷ es)
  offer_goes s sdu o es pdu is h = record {
    stream_is = ap (λ (l : List ℕ). l ++ pdu) h.stream_is
        ∙ (append_assoc (concat (map put o.sent)) (put o.unsent) pdu
        ∙ ap (λ (l : List ℕ). concat (map put o.sent) ++ l)
        (ap (λ (l : List ℕ). put o.unsent ++ l) (sym is) ∙ sym (map-append word o.unsent (places true sdu))));
    fields_are = h.fields_are;
    sent = h.sent;
  }

  cut_in_two : (n : ℕ) (ps : List Place) → put ps ≡ put (take n ps) ++ put (drop n ps)
  cut_in_two n ps =
      ap (λ (qs : List Place). put qs) (sym (take-append-drop n ps)) ∙ map-append word (take n ps) (drop n ps)

  -- the places that aren't sent come next
  pub comes_next : (o : Octets) (es : List OctetEvent) (n : ℕ) → IsStreamOf (λ ps. map word ps) o es
      → AreNext es (map word (take n o.unsent))
  comes_next o es n h =
      let front : concat (map put o.sent) ≡ written es =
      sym (written_is es ∙ ap (λ (l : List (List ℕ)). concat l) h.fields_are) in
      record {
        rest = put (drop n o.unsent);
        stream_is = h.stream_is
            ∙ (ap (λ (l : List ℕ). l ++ put o.unsent) front
            ∙ (ap (λ (l : List ℕ). written es ++ l) (cut_in_two n o.unsent)
            ∙ sym (append_assoc (written es) (put (take n o.unsent)) (put (drop n o.unsent)))));
      }

  -- and are written as the next number
  pub written_goes : (o now : Octets) (es : List OctetEvent) (n : ℕ) → now.sent ≡ o.sent ++ take n o.unsent ∷ []
      → now.unsent ≡ drop n o.unsent → IsStreamOf (λ ps. map word ps) o es
      → IsStreamOf (λ ps. map word ps) now (written_in histories (map word (take n o.unsent)) es)
  written_goes o now es n sent unsent h =
      let ps = take n o.unsent in
      let next = comes_next o es n h in
      let found : has_next (put ps) (kept_of 0 es) ≡ true = ((told 0 es h.sent).next (put ps)).1 next in
      let all : map put now.sent ≡ map put o.sent ++ put ps ∷ [] =
      ap (λ (l : List (List Place)). map put l) sent ∙ map-append put o.sent (ps ∷ []) in
      subst (λ (b : Bool). IsStreamOf (λ qs. map word qs) now (if b then FieldWritten (put ps) ∷ es else es))
      (sym found)
      (record {
        stream_is = h.stream_is
            ∙ (ap (λ (l : List ℕ). concat (map put o.sent) ++ l) (cut_in_two n o.unsent)
            ∙ (sym (append_assoc (concat (map put o.sent)) (put ps) (put (drop n o.unsent)))
            ∙ (ap (λ (l : List ℕ). l ++ put (drop n o.unsent))
            (sym (ap (λ (l : List (List ℕ)). concat l) all ∙ concat_end (map put o.sent) (put ps)))
            ∙ ap (λ (l : List Place). concat (map put now.sent) ++ put l) (sym unsent))));
        fields_are = ap (λ (l : List (List ℕ)). l ++ put ps ∷ []) h.fields_are ∙ sym all;
        sent = (next, h.sent);
      })

  -- where nothing new is sent
  pub stays : (o now : Octets) (es : List OctetEvent) → now.sent ≡ o.sent → now.unsent ≡ o.unsent
      → IsStreamOf (λ ps. map word ps) o es → IsStreamOf (λ ps. map word ps) now es
  stays o now es sent unsent h = record {
    stream_is = h.stream_is
        ∙ (ap (λ (l : List (List Place)). concat (map put l) ++ put o.unsent) (sym sent)
        ∙ ap (λ (l : List Place). concat (map put now.sent) ++ put l) (sym unsent));
    fields_are = h.fields_are ∙ ap (λ (l : List (List Place)). map put l) (sym sent);
    sent = h.sent;
  }

  put_at : (sent : List (List Place)) (n : ℕ) → slice_index_or (map put sent) n [] ≡ put (slice_index_or sent n [])
  put_at [] n = refl
  put_at (ps ∷ sent) zero = refl
  put_at (ps ∷ sent) (suc n) = put_at sent n

  -- the field of a number
  pub field_is : (o : Octets) (es : List OctetEvent) (number : ℕ) → IsStreamOf (λ ps. map word ps) o es
      → slice_index_or (fields es) number [] ≡ map word (sent_with o number)
  field_is o es number h =
      ap (λ (l : List (List ℕ)). slice_index_or l number []) h.fields_are ∙ put_at o.sent number

  -- a stretch of it stands there
  pub stands_there : (o : Octets) (es : List OctetEvent) (number from to at : ℕ) → from ≤ length (sent_with o number)
      → at ≡ from → IsStreamOf (λ ps. map word ps) o es
      → AreOf es number at (map word (slice_range (sent_with o number) from to))
  stands_there o es number from to at within same h =
      let ps = sent_with o number in
      let rest = drop from ps in
      record {
        before = put (take from ps);
        behind = put (drop (to - from) rest);
        field_is = field_is o es number h
            ∙ (cut_in_two from ps
            ∙ (ap (λ (l : List ℕ). put (take from ps) ++ l) (cut_in_two (to - from) rest)
            ∙ sym (append_assoc (put (take from ps)) (put (take (to - from) rest)) (put (drop (to - from) rest)))));
        from_is = length-map (take from ps) word ∙ (length-take-le from ps within ∙ sym same);
      }

-- One event at a time: PDCP's sender beside what is gathered of what it gives RLC.
use Rattle.std.proofs.Common.{◌≡◌, ◌<◌, ◌≤◌, ℕ, suc, ◌+◌, ◌-◌, ◌*◌, ◌==◌, Bool, true, false, ◌||◌, ◌&&◌, if◌then◌else◌}
use Rattle.std.proofs.Common.{List, [], ◌∷◌, ◌++◌, length, map, take, Option, Some, None, option_map, slice_get, refl}
use Rattle.std.proofs.Common.{ap, sym, ◌∙◌, arith, subst, inl, inr, length-append, append-nil, Result}
use Rattle.std.specs.Prelude.{option_to_list, MatchOption, not, slice_index, ◌^◌, ◌%◌}
use Rattle.std.proofs.lemmas.Bool.{eq-eqb, ne_eqb, and_from}
use Rattle.std.proofs.lemmas.List.{length-drop}
use Rattle.bearer_types.specs.declared.Event.{Event}
use Rattle.bearer_types.specs.declared.Event.TheVariants as events
use Rattle.pdcp_pdu.specs.Grammar.{IsBitmap}
use Rattle.pdcp_pdu.specs.Kinds.{IsKind}
use Rattle.pdcp_pdu.specs.Pdus.{UserPdu}
use Rattle.pdcp_pdu.specs.declared.PdcpRefusal.{PdcpRefusal}
use Rattle.pdcp_rx.specs.Heard.{heard}
use Rattle.pdcp_tx.specs.Pdus.{pdu}
use Rattle.pdcp_pdu.specs.declared.PdcpKind.{PdcpKind}
use Rattle.pdcp_pdu.specs.declared.PdcpKind.TheVariants.{Am as AmKind}
use Rattle.pdcp_tx_store.specs.declared.given.Sent.{Sent}
use Rattle.pdcp_tx_store.specs.Waiting.{Waits}
use Rattle.pdcp_tx.specs.State.{State as Sending, Offer, offers, owed_offers, again_offer, new_offers, written, taking}
use Rattle.pdcp_tx.specs.State.{took, took_owed, took_again, took_new, submitted, ticked, is_late, is_overdue}
use Rattle.pdcp_tx.specs.State.{after_late}
use Rattle.bearer_pdcp.specs.Taking.{report_told, next_told}
use Rattle.journal_lives.specs.CountsCome.{CountsCome}
use Rattle.journal_takes.specs.declared.take.Take.{Take}
use Rattle.journal_takes.specs.declared.take.Take.TheVariants.{Report, Pdu}
use Rattle.journal_takes.specs.TakeEvents.{TakeEvent, SduSubmitted, PduTaken, ReportTaken, next_new, kept}
use Rattle.journal_takes.specs.FlowTakes.{next_take, sdu_kept}
use Rattle.journal_takes.proofs.TakesTold.{takes_are_true}
use Rattle.journal_given.specs.declared.supply.GivenPdu.{GivenPdu}
use Rattle.journal_given.specs.Supplies.{Supply, History, histories, account, told, gives, gives_other, reports, is_pdu}
use Rattle.journal_given.specs.Supplies.{has_length, is_take, is_report, marked_from, is_same_list, is_short, says}
use Rattle.journal_given.specs.Supplies.{is_right_report}
use Rattle.journal_given.specs.RightTakes.{MayBeNext, TakeIsRight, IsSaid, DiscardIsRight}
use Rattle.law_bearer.specs.AnyBearer.Stream.{pdu_of}
use Rattle.law_takes.specs.Accounted.{is_confirmed}
use Rattle.law_takes.specs.Histories.{Run, taking as taking_event, Submits, Ticks, SetsDiscard, Takes, IsTold}
use Rattle.law_takes.proofs.Numbered.{one}
use Rattle.law_takes.proofs.Turns.{Turn, Reports, Again, New, Rests, turn, offers-as, offers_are_accounted}
use Rattle.law_takes.proofs.Histories.{waits-told}
use Rattle.law_takes.proofs.Deeds.{deeds_are_told}
use Rattle.law_given.specs.Supplied.{IsOwed, Progress, unconfirmed_from, IsReadAs, IsNoReport, IsPdu, ArePdus}
use Rattle.law_given.specs.Supplied.{AreCounts}
use Rattle.law_given.specs.Supplied.{IsReportFirst, IsOwed, report_in, run_of, IsSupplied}
use Rattle.law_given.specs.SupplyLaws.{supplied_by, supplied_all, AreRight, with_offered, GivenAreOffered}
use Rattle.law_given.specs.SupplyLaws.{MoreIsTakeable}
use Rattle.law_given.proofs.SupplyReading.{no_report}

-- ---- behind events, what is gathered of them stands beside the sender, and each was right

pub record Went (p : Progress) (x : Sending) (told : List Event) (s : Supply History) : Type 0 where
  pub supplied : IsSupplied p x (supplied_all told s)
  pub right : AreRight told s
  pub bits : (supplied_all told s).bits ≡ s.bits

pub all-then : (xs ys : List Event) (s : Supply History)
    → supplied_all (xs ++ ys) s ≡ supplied_all ys (supplied_all xs s)
all-then [] ys s = refl
all-then (x ∷ xs) ys s = all-then xs ys (supplied_by x s)

pub right-then : (xs ys : List Event) (s : Supply History) → AreRight xs s → AreRight ys (supplied_all xs s)
    → AreRight (xs ++ ys) s
right-then [] ys s h k = k
right-then (x ∷ xs) ys s h k = (h.0, right-then xs ys (supplied_by x s) h.1 k)

pub went-then : (p q : Progress) (x y : Sending) (xs ys : List Event) (s : Supply History) → Went p x xs s
    → Went q y ys (supplied_all xs s) → Went q y (xs ++ ys) s
went-then p q x y xs ys s h k = record {
  supplied = subst (λ (u : Supply History). IsSupplied q y u) (sym (all-then xs ys s)) k.supplied;
  right = right-then xs ys s h.right k.right;
  bits = ap (λ (u : Supply History). u.bits) (all-then xs ys s) ∙ k.bits ∙ h.bits;
}

-- ---- the SDUs that wait

-- other events are told, of a sender that owes the same
pub tells-alone : (p : Progress) (x y : Sending) (s : Supply History) (es : List TakeEvent) (h : IsSupplied p x s)
    → IsTold s.takes.first s.takes.bits (run_of y h.given (record s.takes { events = es })) → y.owed ≡ x.owed
    → IsSupplied p y (record s { takes = record s.takes { events = es } })
tells-alone p x y s es h told owed = record {
  bits = h.bits;
  given = h.given;
  told = told;
  many = h.many;
  pdus = h.pdus;
  unconfirmed = h.unconfirmed;
  only_given = h.only_given;
  owed = subst (λ (o : Option (List ℕ)). IsOwed s.bits s.said h.given o) (sym owed) h.owed;
  report = h.report;
  came = h.came;
}

pub submits : (p : Progress) (x : Sending) (s : Supply History) (sdu : List ℕ) → IsSupplied p x s
    → IsSupplied p (submitted x sdu) (told histories (SduSubmitted sdu) s)
unfolding submitted
submits p x s sdu h =
    tells-alone p x (submitted x sdu) s (SduSubmitted sdu ∷ s.takes.events) h
    (deeds_are_told s.takes.first s.takes.bits (run_of x h.given s.takes) (Submits sdu) tt h.told) refl

pub ticks : (p : Progress) (x : Sending) (s : Supply History) → IsSupplied p x s → IsSupplied p (ticked x) s
ticks p x s h =
    tells-alone p x (ticked x) s s.takes.events h
    (deeds_are_told s.takes.first s.takes.bits (run_of x h.given s.takes) Ticks tt h.told) refl

pub sets-discard : (p : Progress) (x : Sending) (s : Supply History) (ttis : ℕ) → IsSupplied p x s
    → IsSupplied p (record x { discard = Some ttis }) s
sets-discard p x s ttis h =
    tells-alone p x (record x { discard = Some ttis }) s s.takes.events h
    (deeds_are_told s.takes.first s.takes.bits (run_of x h.given s.takes) (SetsDiscard ttis) tt h.told) refl

late-some : (discard : Option ℕ) (clock : ℕ) (ws : List Waits) → is_late discard clock (slice_get ws 0) ≡ true
    → 0 < length (map (λ w. w.sdu) ws)
late-some None clock ws e = absurd cc
late-some (Some n) clock [] e = absurd cc
late-some (Some n) clock (w ∷ ws) e = omega arith

discard-right : (p : Progress) (x : Sending) (s : Supply History) → is_overdue x ≡ true → IsSupplied p x s
    → DiscardIsRight s
discard-right p x s e h =
    let t = takes_are_true s.takes.first s.takes.bits s.takes.events h.told.history in
    let some : 0 < length (map (λ w. w.sdu) x.waiting) = late-some x.discard x.clock x.waiting e in
    let same : length (map (λ w. w.sdu) x.waiting)
    ≡ length (kept s.takes.first s.takes.events) - (next_new s.takes.first s.takes.events - s.takes.first) =
    ap (λ (l : List (List ℕ)). length l) (h.told.accounted.waiting ∙ t.waiting)
    ∙ length-drop ((account s.takes).next - s.takes.first) (kept s.takes.first s.takes.events)
    ∙ ap (λ (n : ℕ). length (kept s.takes.first s.takes.events) - (n - s.takes.first)) t.next in
    record { waits = omega (arith, some, same) }

pub discards : (p : Progress) (x : Sending) (s : Supply History) (lcid len : ℕ) → is_overdue x ≡ true
    → IsSupplied p x s → Went p (after_late x) (events.Discard lcid len ∷ []) s
unfolding after_late
discards p x s lcid len e h = record {
  supplied = record {
    bits = h.bits;
    given = h.given;
    told = waits-told s.takes.first s.takes.bits (run_of x h.given s.takes) true e h.told;
    many = h.many;
    pdus = h.pdus;
    unconfirmed = h.unconfirmed;
    only_given = h.only_given;
    owed = h.owed;
    report = h.report;
    came = h.came;
  };
  right = (discard-right p x s e h, tt);
  bits = refl;
}

-- ---- RLC takes what is next

taken-run : (first bits : ℕ) (r : Run) (o : Option Offer) → slice_get (offers r.sender) 0 ≡ o
    → IsTold first bits r
    → IsTold first bits (record {
      sender = took r.sender;
      given = r.given ++ option_to_list (option_map (λ (x : Offer). x.count) o);
      events = option_to_list (option_map taking_event (option_map (λ (x : Offer). x.count) o)) ++ r.events;
    })
taken-run first bits r o e h =
    subst (λ (p : Option Offer). IsTold first bits (record {
      sender = took r.sender;
      given = r.given ++ option_to_list (option_map (λ (x : Offer). x.count) p);
      events = option_to_list (option_map taking_event (option_map (λ (x : Offer). x.count) p)) ++ r.events;
    })) e (deeds_are_told first bits r Takes tt h)

-- one more is given, and isn't confirmed
unconfirmed-more : (is : ℕ → Bool) (at : ℕ) (counts : List (Option ℕ)) (count : Option ℕ) (number : ℕ)
    → number ≡ at + length counts → is number ≡ false
    → unconfirmed_from is at (counts ++ count ∷ [])
    ≡ unconfirmed_from is at counts ++ record { number = number; count = count } ∷ []
unconfirmed-more is at [] count number same e =
    let here : number ≡ at = omega (arith, same) in
    ap (λ (b : Bool). if b then [] else record { number = at; count = count } ∷ []) (sym (ap is here) ∙ e)
    ∙ ap (λ (n : ℕ). record { number = n; count = count } ∷ []) (sym here)
unconfirmed-more is at (c ∷ counts) count number same e =
    by (is at) (unconfirmed-more is (at + 1) counts count number (omega (arith, same)) e)
  where
    by : (b : Bool)
        → unconfirmed_from is (at + 1) (counts ++ count ∷ [])
        ≡ unconfirmed_from is (at + 1) counts ++ record { number = number; count = count } ∷ []
        → (if b then unconfirmed_from is (at + 1) (counts ++ count ∷ [])
        else record { number = at; count = c } ∷ unconfirmed_from is (at + 1) (counts ++ count ∷ []))
        ≡ (if b then unconfirmed_from is (at + 1) counts
        else record { number = at; count = c } ∷ unconfirmed_from is (at + 1) counts)
        ++ record { number = number; count = count } ∷ []
    by true ih = ih
    by false ih = ap (λ (l : List GivenPdu). record { number = at; count = c } ∷ l) ih

pdus-more : (bits : ℕ) (said : CountsCome) (counts : List (Option ℕ)) (pdus : List (List ℕ)) (count : Option ℕ)
    (pdu : List ℕ) → ArePdus bits said counts pdus → IsPdu bits said count pdu
    → ArePdus bits said (counts ++ count ∷ []) (pdus ++ pdu ∷ [])
pdus-more bits said [] [] count pdu h i = (i, tt)
pdus-more bits said [] (x ∷ pdus) count pdu h i = absurd h
pdus-more bits said (c ∷ counts) [] count pdu h i = absurd h
pdus-more bits said (c ∷ counts) (x ∷ pdus) count pdu h i = (h.0, pdus-more bits said counts pdus count pdu h.1 i)

counts-more : (counts : List (Option ℕ)) (count : ℕ) → AreCounts counts → AreCounts (counts ++ Some count ∷ [])
counts-more [] count h = tt
counts-more (None ∷ counts) count h = absurd h
counts-more (Some c ∷ counts) count h = counts-more counts count h

first-more : (counts : List (Option ℕ)) (count : ℕ) → IsReportFirst counts
    → IsReportFirst (counts ++ Some count ∷ [])
first-more [] count h = tt
first-more (c ∷ counts) count h = counts-more counts count h

report-same : (counts : List (Option ℕ)) (count : ℕ) → report_in counts ≡ report_in (counts ++ Some count ∷ [])
report-same [] count = refl
report-same (None ∷ counts) count = refl
report-same (Some c ∷ counts) count = refl

new-owes : (ws : List Waits) (x : Sending) → x.owed ≡ None → (took_new ws x).owed ≡ None
new-owes [] x e = e
new-owes (w ∷ ws) x e = e

again-owes : (ss : List Sent) (x : Sending) → x.owed ≡ None → (took_again ss x).owed ≡ None
again-owes [] x e = new-owes (take (x.bound - x.next) x.waiting) x e
again-owes (sdu ∷ ss) x e = e

owed-owes : (o : Option (List ℕ)) (x : Sending) → x.owed ≡ o → (took_owed o x).owed ≡ None
owed-owes None x e = again-owes x.again x e
owed-owes (Some report) x e = refl

-- no report is owed behind it
pub owes-none : (x : Sending) → (took x).owed ≡ None
unfolding took
owes-none x = owed-owes x.owed x refl

none-owed : (bits : ℕ) (said : CountsCome) (given : List (Option ℕ)) (x : Sending) → IsReportFirst given
    → IsOwed bits said given (took x).owed
none-owed bits said given x h = subst (λ (o : Option (List ℕ)). IsOwed bits said given o) (sym (owes-none x)) h

one-more : (p : Progress) (x : Sending) (s : Supply History) (h : IsSupplied p x s) (count : Option ℕ)
    → s.unconfirmed ++ record { number = s.given; count = count } ∷ []
    ≡ unconfirmed_from p.is_confirmed 0 (h.given ++ count ∷ [])
one-more p x s h count =
    ap (λ (l : List GivenPdu). l ++ record { number = s.given; count = count } ∷ []) h.unconfirmed
    ∙ sym (unconfirmed-more p.is_confirmed 0 h.given count s.given (omega (arith, h.many))
    (h.only_given s.given (omega arith)))

takeable : (s : Supply History) (next : Option Take) → (p : Progress) (x : Sending) → IsSupplied p x s
    → next_take (account s.takes) ≡ next → MayBeNext s.takes next
takeable s next p x h e =
    let t = takes_are_true s.takes.first s.takes.bits s.takes.events h.told.history in
    subst (λ (o : Option Take). MayBeNext s.takes o) e t.takes

-- ---- the PDU of a COUNT

abbrev of_count : ℕ → List ℕ → Offer
of_count count sdu = record { count = Some count; text = sdu }

first-given : (p : Progress) (x : Sending) (s : Supply History) (h : IsSupplied p x s) → x.owed ≡ None
    → IsReportFirst h.given
first-given p x s h none = subst (λ (o : Option (List ℕ)). IsOwed s.bits s.said h.given o) none h.owed

gives-pdu : (p : Progress) (x : Sending) (s : Supply History) (count : ℕ) (sdu : List ℕ) → IsKind (AmKind s.bits)
    → x.kind ≡ AmKind s.bits → IsSupplied p x s → x.owed ≡ None
    → slice_get (offers x) 0 ≡ Some (of_count count sdu)
    → IsSupplied (with_offered (pdu_of x (of_count count sdu) ∷ []) p) (took x)
    (gives (Some count) (told histories (PduTaken count) s))
gives-pdu p x s count sdu bits kind h none first = record {
  bits = h.bits;
  given = h.given ++ Some count ∷ [];
  told = taken-run s.takes.first s.takes.bits (run_of x h.given s.takes) (Some (of_count count sdu)) first h.told;
  many = omega (arith, length-append h.given (Some count ∷ []), h.many);
  pdus = pdus-more s.bits s.said h.given p.offered (Some count) (pdu_of x (of_count count sdu)) h.pdus
      (subst (λ (k : PdcpKind). IsNoReport (heard (AmKind s.bits) (pdu k x.protection count sdu))) (sym kind)
      (no_report s.bits x.protection count sdu bits));
  unconfirmed = one-more p x s h (Some count);
  only_given = λ number le. h.only_given number (omega (arith, le));
  owed = none-owed s.bits s.said (h.given ++ Some count ∷ []) x
      (first-more h.given count (first-given p x s h none));
  report = h.report ∙ ap (λ (o : Option ℕ). if p.came then None else o) (report-same h.given count);
  came = λ e. omega arith;
}

take-so : (s : Supply History) (count : ℕ) (sdu : List ℕ) → next_take (account s.takes) ≡ Some (Pdu count)
    → sdu_kept count (account s.takes) ≡ Some sdu → is_take histories (Some count) (length sdu) s ≡ true
take-so s count sdu n k =
    and_from (is_pdu count (next_take (account s.takes))) (has_length (length sdu) (sdu_kept count (account s.takes)))
    (ap (is_pdu count) n ∙ eq-eqb count count refl)
    (ap (has_length (length sdu)) k ∙ eq-eqb (length sdu) (length sdu) refl)

take-right : (p : Progress) (x : Sending) (s : Supply History) (count : ℕ) (sdu : List ℕ) → IsSupplied p x s
    → (account s.takes).from ≤ count → next_take (account s.takes) ≡ Some (Pdu count)
    → sdu_kept count (account s.takes) ≡ Some sdu → TakeIsRight (Some count) (length sdu) s
take-right p x s count sdu h le n k =
    let t = takes_are_true s.takes.first s.takes.bits s.takes.events h.told.history in
    record {
      own = count;
      count_is = refl;
      next = takeable s (Some (Pdu count)) p x h n;
      len_is = subst (λ (o : Option (List ℕ)). MatchOption o ⊥ (λ octets. length octets ≡ length sdu))
          (sym k ∙ t.sdus count le) refl;
    }

pdu-went : (p : Progress) (x : Sending) (s : Supply History) (lcid count : ℕ) (sdu : List ℕ)
    → IsKind (AmKind s.bits) → x.kind ≡ AmKind s.bits → IsSupplied p x s → x.owed ≡ None
    → (account s.takes).from ≤ count → next_take (account s.takes) ≡ Some (Pdu count)
    → sdu_kept count (account s.takes) ≡ Some sdu → slice_get (offers x) 0 ≡ Some (of_count count sdu)
    → Went (with_offered (pdu_of x (of_count count sdu) ∷ []) p) (took x)
    (events.Take lcid (Some count) (length sdu) ∷ []) s
pdu-went p x s lcid count sdu bits kind h none le n k first =
    let ok : true ≡ is_take histories (Some count) (length sdu) s = sym (take-so s count sdu n k) in
    record {
      supplied = subst (λ (b : Bool). IsSupplied (with_offered (pdu_of x (of_count count sdu) ∷ []) p) (took x) (if b
          then gives (Some count) (told histories (PduTaken count) s) else gives_other s)) ok
          (gives-pdu p x s count sdu bits kind h none first);
      right = (take-right p x s count sdu h le n k, tt);
      bits = subst (λ (b : Bool). (if b then gives (Some count) (told histories (PduTaken count) s)
          else gives_other s).bits ≡ s.bits) ok refl;
    }

-- ---- the status report

abbrev of_report : List ℕ → Offer
of_report report = record { count = None; text = report }

-- nothing was given yet, nor has it come
not-come : (p : Progress) (given : ℕ) (came : Bool) → p.came ≡ came → (p.came ≡ true → 0 < given) → given ≡ 0
    → Some given ≡ (if came then None else Some 0)
not-come p given true e f none = absurd (omega (arith, f e, none))
not-come p given false e f none = ap (λ (n : ℕ). Some n) none

gives-report : (p : Progress) (x : Sending) (s : Supply History) (report : List ℕ) (h : IsSupplied p x s)
    → h.given ≡ [] → IsReadAs s.bits report s.said → slice_get (offers x) 0 ≡ Some (of_report report)
    → IsSupplied (with_offered (report ∷ []) p) (took x) (gives None (reports (told histories ReportTaken s)))
gives-report p x s report h nothing read first =
    let none : s.given ≡ 0 = h.many ∙ ap (λ (l : List (Option ℕ)). length l) nothing in
    let alone : h.given ++ None ∷ [] ≡ None ∷ [] = ap (λ (l : List (Option ℕ)). l ++ None ∷ []) nothing in
    record {
      bits = h.bits;
      given = h.given ++ None ∷ [];
      told = taken-run s.takes.first s.takes.bits (run_of x h.given s.takes) (Some (of_report report)) first h.told;
      many = omega (arith, length-append h.given (None ∷ []), h.many);
      pdus = pdus-more s.bits s.said h.given p.offered None report h.pdus read;
      unconfirmed = one-more p x s h None;
      only_given = λ number le. h.only_given number (omega (arith, le));
      owed = none-owed s.bits s.said (h.given ++ None ∷ []) x (subst IsReportFirst (sym alone) tt);
      report = not-come p s.given p.came refl h.came none
          ∙ ap (λ (l : List (Option ℕ)). if p.came then None else report_in l) (sym alone);
      came = λ e. omega arith;
    }

list-itself : (xs : List ℕ) → is_same_list xs xs ≡ true
list-itself [] = refl
list-itself (x ∷ xs) = and_from (x == x) (is_same_list xs xs) (eq-eqb x x refl) (list-itself xs)

bitmap-short : (bitmap : List ℕ) → IsBitmap bitmap → is_short bitmap ≡ true
bitmap-short [] h = refl
bitmap-short (octet ∷ octets) (inl e) = absurd cc
bitmap-short (octet ∷ octets) (inr h) =
    ap (λ (b : Bool). b || not (slice_index (octet ∷ octets) (length (octet ∷ octets) - 1) == 0))
    (ne_eqb (length (octet ∷ octets)) 0 (λ e. omega (arith, e)))
    ∙ ap (λ (b : Bool). not b) (ne_eqb (slice_index (octet ∷ octets) (length (octet ∷ octets) - 1)) 0 h)

says-so : (fms : ℕ) (bitmap : List ℕ) (bits : ℕ) (come : CountsCome) → IsSaid fms bitmap bits come
    → says fms bitmap bits come ≡ true
says-so fms bitmap bits come h =
    and_from (fms == come.next % 2 ^ bits)
    (is_same_list (marked_from bitmap (come.next + 1) 0 (8 * length bitmap)) come.beyond && is_short bitmap)
    (eq-eqb fms (come.next % 2 ^ bits) h.fms_is)
    (and_from (is_same_list (marked_from bitmap (come.next + 1) 0 (8 * length bitmap)) come.beyond) (is_short bitmap)
    (ap (λ (xs : List ℕ). is_same_list xs come.beyond) h.marks_are ∙ list-itself come.beyond)
    (bitmap-short bitmap h.short))

report-so : (s : Supply History) (fms : ℕ) (bitmap : List ℕ) → next_take (account s.takes) ≡ Some Report
    → IsSaid fms bitmap s.bits s.said → is_right_report histories fms bitmap s ≡ true
report-so s fms bitmap n h =
    and_from (is_report (next_take (account s.takes))) (says fms bitmap s.bits s.said) (ap is_report n)
    (says-so fms bitmap s.bits s.said h)

report-went : (p : Progress) (x : Sending) (s : Supply History) (lcid : ℕ) (report : List ℕ) (h : IsSupplied p x s)
    → h.given ≡ [] → (read : IsReadAs s.bits report s.said) → next_take (account s.takes) ≡ Some Report
    → slice_get (offers x) 0 ≡ Some (of_report report)
    → Went (with_offered (report ∷ []) p) (took x) (events.Report lcid read.fms read.bitmap ∷ []) s
report-went p x s lcid report h nothing read n first =
    let ok : true ≡ is_right_report histories read.fms read.bitmap s =
    sym (report-so s read.fms read.bitmap n read.says) in
    record {
      supplied = subst (λ (b : Bool). IsSupplied (with_offered (report ∷ []) p) (took x) (if b
          then gives None (reports (told histories ReportTaken s)) else gives_other s)) ok
          (gives-report p x s report h nothing read first);
      right = (record { next = takeable s (Some Report) p x h n; said = read.says }, tt);
      bits = subst (λ (b : Bool). (if b then gives None (reports (told histories ReportTaken s))
          else gives_other s).bits ≡ s.bits) ok refl;
    }

-- ---- nothing may be taken

pub nothing-more : (p : Progress) (x : Sending) (s : Supply History) → IsSupplied p x s
    → IsSupplied (with_offered [] p) x s
nothing-more p x s h =
    subst (λ (l : List (List ℕ)). IsSupplied (record p { offered = l }) x s) (sym (append-nil p.offered)) h

rests-went : (p : Progress) (x : Sending) (s : Supply History) → IsSupplied p x s → x.owed ≡ None
    → slice_get (offers x) 0 ≡ None → Went (with_offered [] p) (took x) [] s
rests-went p x s h none first = record {
  supplied = nothing-more p (took x) s (record {
    bits = h.bits;
    given = h.given;
    told = subst (λ (l : List (Option ℕ)). IsTold s.takes.first s.takes.bits (run_of (took x) l s.takes))
        (append-nil h.given)
        (taken-run s.takes.first s.takes.bits (run_of x h.given s.takes) None first h.told);
    many = h.many;
    pdus = h.pdus;
    unconfirmed = h.unconfirmed;
    only_given = h.only_given;
    owed = none-owed s.bits s.said h.given x (first-given p x s h none);
    report = h.report;
    came = h.came;
  });
  right = tt;
  bits = refl;
}

-- ---- whichever it is

-- by what is first to be taken
abbrev Took : Progress → Sending → Supply History → ℕ → Option Offer → Type 0
Took p x s lcid o = Went (with_offered (option_to_list (option_map (pdu_of x) o)) p) (took x)
    (next_told lcid (AmKind s.bits) (option_map (λ (y : Offer). written x.kind x.protection y.count y.text) o)) s

first-is : (x : Sending) (all : List Offer) → offers x ≡ all → slice_get (offers x) 0 ≡ slice_get all 0
first-is x all e = ap (λ (l : List Offer). slice_get l 0) e

report-owed : (p : Progress) (x : Sending) (s : Supply History) (h : IsSupplied p x s) (report : List ℕ)
    → x.owed ≡ Some report → (h.given ≡ []) × IsReadAs s.bits report s.said
report-owed p x s h report e = subst (λ (o : Option (List ℕ)). IsOwed s.bits s.said h.given o) e h.owed

by-turn : (p : Progress) (x : Sending) (s : Supply History) (lcid : ℕ) → IsKind (AmKind s.bits)
    → x.kind ≡ AmKind s.bits → IsSupplied p x s → Turn x (account s.takes)
    → Took p x s lcid (slice_get (offers x) 0)
by-turn p x s lcid bits kind h (Reports n) =
    let owed = report-owed p x s h n.report n.owed in
    let first : slice_get (offers x) 0 ≡ Some (of_report n.report) =
    first-is x (owed_offers (Some n.report) ++ map again_offer x.again
    ++ new_offers x.next (take (x.bound - x.next) x.waiting))
    (offers-as x (Some n.report) x.again (take (x.bound - x.next) x.waiting) n.owed refl refl) in
    subst (λ (o : Option Offer). Took p x s lcid o) (sym first)
    (subst (λ (r : Result UserPdu PdcpRefusal). Went (with_offered (n.report ∷ []) p) (took x) (report_told lcid r) s)
    (sym owed.1.read) (report-went p x s lcid n.report h owed.0 owed.1 n.next first))
by-turn p x s lcid bits kind h (Again n) =
    let t = takes_are_true s.takes.first s.takes.bits s.takes.events h.told.history in
    let at = (account s.takes).at in
    let first : slice_get (offers x) 0 ≡ Some (of_count at n.sdu) =
    first-is x (owed_offers None ++ map again_offer (one (is_confirmed (account s.takes)) at n.sdu ∷ n.rest)
    ++ new_offers x.next (take (x.bound - x.next) x.waiting))
    (offers-as x None (one (is_confirmed (account s.takes)) at n.sdu ∷ n.rest) (take (x.bound - x.next) x.waiting)
    n.owed n.again refl) in
    subst (λ (o : Option Offer). Took p x s lcid o) (sym first)
    (pdu-went p x s lcid at n.sdu bits kind h n.owed t.from_at n.next n.octets first)
by-turn p x s lcid bits kind h (New n) =
    let t = takes_are_true s.takes.first s.takes.bits s.takes.events h.told.history in
    let at = (account s.takes).at in
    let is : x.next ≡ at = h.told.accounted.next ∙ sym n.at in
    let first : slice_get (offers x) 0 ≡ Some (of_count at n.first.sdu) =
    first-is x (owed_offers None ++ map again_offer []
    ++ new_offers x.next (n.first ∷ take (x.bound - x.next - 1) n.rest))
    (offers-as x None [] (n.first ∷ take (x.bound - x.next - 1) n.rest) n.owed n.again n.some)
    ∙ ap (λ (count : ℕ). Some (of_count count n.first.sdu)) is in
    subst (λ (o : Option Offer). Took p x s lcid o) (sym first)
    (pdu-went p x s lcid at n.first.sdu bits kind h n.owed t.from_at n.next n.octets first)
by-turn p x s lcid bits kind h (Rests n) =
    let first : slice_get (offers x) 0 ≡ None =
    first-is x (owed_offers None ++ map again_offer [] ++ new_offers x.next [])
    (offers-as x None [] [] n.owed n.again n.none) in
    subst (λ (o : Option Offer). Took p x s lcid o) (sym first) (rests-went p x s h n.owed first)

-- the PDU that RLC takes
abbrev pub next-offered : Sending → List (List ℕ)
next-offered x = option_to_list (option_map (pdu_of x) (slice_get (offers x) 0))

pub takes-next : (p : Progress) (x : Sending) (s : Supply History) (lcid : ℕ) → IsKind (AmKind s.bits)
    → x.kind ≡ AmKind s.bits → IsSupplied p x s
    → Went (with_offered (next-offered x) p) (took x) (next_told lcid (AmKind s.bits) (taking x)) s
unfolding taking
takes-next p x s lcid bits kind h =
    by-turn p x s lcid bits kind h (turn x (account s.takes) h.told.accounted)

pub more_is_takeable : MoreIsTakeable
more_is_takeable p b s h = (offers_are_accounted b.pdcp.tx (account s.takes) h.told.accounted).some

-- ---- what is given is what was offered

as-many : (bits : ℕ) (said : CountsCome) (counts : List (Option ℕ)) (pdus : List (List ℕ))
    → ArePdus bits said counts pdus → length counts ≡ length pdus
as-many bits said [] [] h = refl
as-many bits said [] (pdu ∷ pdus) h = absurd h
as-many bits said (count ∷ counts) [] h = absurd h
as-many bits said (count ∷ counts) (pdu ∷ pdus) h = ap suc (as-many bits said counts pdus h.1)

pub given_are_offered : GivenAreOffered
given_are_offered p x s h = h.many ∙ as-many s.bits s.said h.given p.offered h.pdus

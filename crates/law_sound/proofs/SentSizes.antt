-- SDUs that are submitted to a bearer of acknowledged data have as many octets as one may have: so those have that a
-- checker gathers over records of a group.
use Rattle.std.proofs.Common.{◌≡◌, ◌≤◌, ℕ, ◌+◌, ◌==◌, Bool, true, false, if◌then◌else◌, Option, Some, None, List}
use Rattle.std.proofs.Common.{[], ◌∷◌, ◌++◌, map, append-nil, append_assoc, refl}
use Rattle.std.proofs.Common.{sym, subst}
use Rattle.std.specs.List.{AllByRecursion, filter}
use Rattle.air_record.specs.declared.record.Arrived.TheVariants.{Got}
use Rattle.air_record.specs.declared.record.Record.{Record}
use Rattle.air_record.specs.declared.record.Record.TheVariants as records
use Rattle.air_record.specs.Submissions.{submitted_by}
use Rattle.air_text.specs.Groups.{Group}
use Rattle.bearer_types.specs.Sides.{sender_of}
use Rattle.bearer_types.specs.declared.event.Event.{Event}
use Rattle.bearer_types.specs.declared.event.Event.TheVariants as events
use Rattle.l2_types.specs.declared.side.Side.{Side}
use Rattle.l2_types.specs.declared.side.Side.TheVariants.{Nb, Ue}
use Rattle.promises.specs.Flows.{loops_in}
use Rattle.promises.specs.Records.{is_looped, sdu_of}
use Rattle.journal_flows.specs.FlowsTold.{Histories}
use Rattle.journal_flows.specs.Gathering.{Journal}
use Rattle.journal_given.specs.declared.supply.GivenPdu.{GivenPdu}
use Rattle.journal_given.specs.Supplies.{Supply, Bearer, History, confirmation, confirms_all, confirms_one}
use Rattle.journal_given.specs.Supplies.{gives, gives_other, histories, is_take, is_right_report, reports, takes_pdu}
use Rattle.journal_given.specs.Supplies.{takes_report, told}
use Rattle.journal_sent.specs.RightSent.{IsSdu}
use Rattle.journal_takes.specs.TakeEvents.{PduTaken, ReportHeard, ReportTaken, SduDiscarded, SduSubmitted}
use Rattle.law_given.specs.BearerRecords.{bearer_first, bearer_heard, comes_by, confirms_by, gone_by, heard_by}
use Rattle.law_given.specs.BearerRecords.{landed_by}
use Rattle.law_given.specs.OneBearer.{bearer_happens, changed_if}
use Rattle.law_given.proofs.GivenRecords.{journal_at, one_behind}
use Rattle.law_given.proofs.SupplyPdusKept.{WereSubmitted}
use Rattle.law_sound.proofs.SentBetween.{HaveSizes}

-- ---- of a direction

abbrev IsSized : Supply History → Type 0
IsSized s = WereSubmitted IsSdu s.takes.events

takes_sized : (count : Option ℕ) (len : ℕ) (s : Supply History) → IsSized s → IsSized (takes_pdu histories count len s)
takes_sized None len s h = h
takes_sized (Some count) len s h = by (is_take histories (Some count) len s)
  where
    by : (b : Bool)
        → IsSized (if b then gives (Some count) (told histories (PduTaken count) s) else gives_other s)
    by true = h
    by false = h

report_sized : (fms : ℕ) (bitmap : List ℕ) (s : Supply History) → IsSized s
    → IsSized (takes_report histories fms bitmap s)
report_sized fms bitmap s h = by (is_right_report histories fms bitmap s)
  where
    by : (b : Bool)
        → IsSized (if b then gives None (reports (told histories ReportTaken s)) else gives_other s)
    by true = h
    by false = h

confirmation_sized : (count : Option ℕ) (s : Supply History) → IsSized s
    → IsSized (told histories (confirmation count) s)
confirmation_sized None s h = h
confirmation_sized (Some count) s h = h

confirms_one_sized : (p : ℕ → Bool) (pdu : GivenPdu) (s : Supply History) → IsSized s
    → IsSized (confirms_one histories p pdu s)
confirms_one_sized p pdu s h = by (p pdu.number)
  where
    by : (b : Bool) → IsSized (if b then told histories (confirmation pdu.count) s
        else record s { unconfirmed = s.unconfirmed ++ pdu ∷ [] })
    by true = confirmation_sized pdu.count s h
    by false = h

all_sized : (p : ℕ → Bool) (pdus : List GivenPdu) (s : Supply History) → IsSized s
    → IsSized (confirms_all histories p pdus s)
all_sized p [] s h = h
all_sized p (pdu ∷ pdus) s h =
    all_sized p pdus (confirms_one histories p pdu s) (confirms_one_sized p pdu s h)

confirms_sized : (status : Bool) (p : ℕ → Bool) (s : Supply History) → IsSized s
    → IsSized (confirms_by histories status p s)
confirms_sized true p s h = all_sized p s.unconfirmed (record s { unconfirmed = [] }) h
confirms_sized false p s h = h

gone_sized : (sequenced : ℕ → Bool) (s : Supply History) → IsSized s → IsSized (gone_by sequenced s)
gone_sized sequenced s h = by (comes_by sequenced s.report)
  where
    by : (b : Bool) → IsSized (if b then record s { report = None } else s)
    by true = h
    by false = h

heard_sized : (sequenced : ℕ → Bool) (sender s : Supply History) → IsSized s
    → IsSized (heard_by histories sequenced sender s)
heard_sized sequenced sender s h = by (comes_by sequenced sender.report)
  where
    by : (b : Bool)
        → IsSized (if b then told histories (ReportHeard sender.said.next sender.said.beyond) s else s)
    by true = h
    by false = h

-- ---- of both

landed_sized : (from : Side) (status : Bool) (sequenced confirmed : ℕ → Bool) (b : Bearer History) → HaveSizes b
    → HaveSizes (landed_by histories from status sequenced confirmed b)
landed_sized Nb status sequenced confirmed b h = record {
  nb = gone_sized sequenced b.nb h.nb;
  ue = heard_sized sequenced b.nb (confirms_by histories status confirmed b.ue)
      (confirms_sized status confirmed b.ue h.ue);
}
landed_sized Ue status sequenced confirmed b h = record {
  nb = heard_sized sequenced b.ue (confirms_by histories status confirmed b.nb)
      (confirms_sized status confirmed b.nb h.nb);
  ue = gone_sized sequenced b.ue h.ue;
}

abbrev pub AreSized : Option (Bearer History) → Type 0
AreSized None = Unit {0}
AreSized (Some b) = HaveSizes b

changed_sized : (here : Bool) (side : Side) (f : Supply History → Supply History) (b : Option (Bearer History))
    → (here ≡ true → (s : Supply History) → IsSized s → IsSized (f s)) → AreSized b
    → AreSized (changed_if here side f b)
changed_sized true side f None stays h = tt
changed_sized true Nb f (Some b) stays h = record { nb = stays refl b.nb h.nb; ue = h.ue }
changed_sized true Ue f (Some b) stays h = record { nb = h.nb; ue = stays refl b.ue h.ue }
changed_sized false side f b stays h = h

-- ---- over records

event_sized : (l : ℕ) (side : Side) (e : Event) (b : Option (Bearer History)) → AreSized b
    → AreSized (bearer_happens histories l side e b)
event_sized l side (events.Take lcid count len) b h =
    changed_sized (lcid == l) side (takes_pdu histories count len) b (λ here s q. takes_sized count len s q) h
event_sized l side (events.Report lcid fms bitmap) b h =
    changed_sized (lcid == l) side (takes_report histories fms bitmap) b (λ here s q. report_sized fms bitmap s q) h
event_sized l side (events.Discard lcid len) b h =
    changed_sized (lcid == l) side (told histories SduDiscarded) b (λ here s q. q) h
event_sized l side e b h = h

record_sized : (l : ℕ) (one : Record) (j : Journal Histories) (b : Option (Bearer History))
    → AllByRecursion IsSdu (loops_in l (one ∷ [])) → AreSized b → AreSized (bearer_heard l one j b)
record_sized l (records.Of side e) j b sizes h = event_sized l side e b h
record_sized l (records.Looped lcid octets) j b sizes h =
    changed_sized (lcid == l) Ue (told histories (SduSubmitted octets)) b
    (λ here s q. (by (lcid == l) here sizes, q)) h
  where
    by : (x : Bool) → x ≡ true
        → AllByRecursion IsSdu (map sdu_of (if x then records.Looped lcid octets ∷ [] else [])) → IsSdu octets
    by true is h = h.0
    by false is h = absurd cc
record_sized l (records.Air direction Got heard) j None sizes h = tt
record_sized l (records.Air direction Got heard) j (Some b) sizes h =
    landed_sized (sender_of direction) _ _ _ b h
record_sized l (records.Air direction what heard) j b sizes h = h
record_sized l one j b sizes h = h

loops_first : (l : ℕ) (one : Record) (xs : List Record) → AllByRecursion IsSdu (loops_in l (one ∷ xs))
    → AllByRecursion IsSdu (loops_in l (one ∷ [])) × AllByRecursion IsSdu (loops_in l xs)
loops_first l one xs h = by (is_looped l one) h
  where
    by : (x : Bool)
        → AllByRecursion IsSdu (map sdu_of (if x then one ∷ filter (is_looped l) xs else filter (is_looped l) xs))
        → AllByRecursion IsSdu (map sdu_of (if x then one ∷ [] else [])) × AllByRecursion IsSdu (loops_in l xs)
    by true h = ((h.0, tt), h.1)
    by false h = (tt, h)

module _ (l : ℕ) (low : l ≤ 10) (newer : List Group) (now : Group) (past : List Group)
    (none : submitted_by now.line ≡ None) where
  pub sized_over : (xs told : List Record) → AllByRecursion IsSdu (loops_in l xs)
      → AreSized (bearer_first l now past told) → AreSized (bearer_first l now past (told ++ xs))
  sized_over [] told sizes h =
      subst (λ (zs : List Record). AreSized (bearer_first l now past zs)) (sym (append-nil told)) h
  sized_over (one ∷ xs) told sizes h =
      let parts = loops_first l one xs sizes in
      let next : AreSized (bearer_first l now past (told ++ one ∷ [])) =
      subst AreSized (sym (one_behind l low newer now past none told one (bearer_first l now past told) refl))
      (record_sized l one (journal_at l low newer now past none (told ++ one ∷ [])) (bearer_first l now past told)
      parts.0 h) in
      subst (λ (zs : List Record). AreSized (bearer_first l now past zs)) (append_assoc told (one ∷ []) xs)
      (sized_over xs (told ++ one ∷ []) parts.1 next)

  pub sizes_over : (told xs : List Record) (b d : Bearer History) → bearer_first l now past told ≡ Some b
      → bearer_first l now past (told ++ xs) ≡ Some d → AllByRecursion IsSdu (loops_in l xs) → HaveSizes b
      → HaveSizes d
  sizes_over told xs b d is is' sizes h =
      subst AreSized is' (sized_over xs told sizes (subst AreSized (sym is) h))

-- What an event of an end tells of a flow is what PDCP gives by it.
use Rattle.std.proofs.Common.{◌^◌, ◌≡◌, ℕ, ◌+◌, ◌==◌, Bool, true, false, ◌&&◌, List, [], ◌∷◌, ◌++◌, length}
use Rattle.std.proofs.Common.{Option, Some}
use Rattle.std.proofs.Common.{None, refl, ap, sym, ◌∙◌, inr, subst, if◌then◌else◌}
use Rattle.std.specs.Prelude.{slice_index_or}
use Rattle.std.specs.List.{AllByRecursion, flat_map}
use Rattle.std.proofs.lemmas.Bool.{and_parts, eqb-true, lt-ltb}
use Rattle.l2_types.specs.declared.event.Clock.TheVariants.{Poll, Reorder, Prohibit}
use Rattle.l2_types.specs.declared.side.Side.{Side}
use Rattle.l2_types.specs.declared.side.Side.TheVariants.{Nb, Ue}
use Rattle.pdcp_pdu.specs.declared.pdu.PdcpKind.TheVariants as pdcp
use Rattle.bearer_types.specs.declared.event.Event.{Event}
use Rattle.bearer_types.specs.declared.event.Event.TheVariants as events
use Rattle.bearer_types.specs.Sides.{is_same, other}
use Rattle.pdu_show.specs.declared.kinds.Layout.{Layout}
use Rattle.pdu_show.specs.declared.kinds.Layout.TheVariants as layouts
use Rattle.law_words.specs.Arrivals.{Account, AccountEntry, Given, Gives, account, accounted}
use Rattle.promises.specs.Arrival.{only_if}
use Rattle.promises.specs.Events.{is_on, told_on}
use Rattle.promises.specs.Given.{given_in, entries_given, entries_of}
use Rattle.journal_flows.specs.Possible.{is_possible, is_count_of}
use Rattle.journal_account.specs.FlowEvents.{next_of}
use Rattle.journal_account.specs.FlowEvents.{FlowEvent, ReorderStarted, ReorderExpired}
use Rattle.journal_lives.specs.LifeEvents.{LifeEvent, PduGiven, running}
use Rattle.journal_um.specs.UmEvents.{UmEvent}
use Rattle.journal_um.specs.UmEvents as um
use Rattle.journal_flows.specs.NumberedPdus.{Told, told}
use Rattle.journal_flows.specs.Gathering.{all_told, taken_as, report_as, reorder_as, told_by}
use Rattle.journal_flows.specs.FlowsTold.{Histories, histories, is_at}
use Rattle.promises.specs.Bearers.{IsCounted}
use Rattle.law_sound.proofs.Agreeing.{Agrees}
use Rattle.law_sound.proofs.Events.{IsIdle, agrees_given}
use Rattle.law_sound.proofs.Telling.{flow, IsApart, apart_all, told_own}

pub record IsGiven (from : Side) (l : ℕ) (a : Account) (hs : List AccountEntry) (f : Histories) : Type 0 where
  pub agrees : Agrees (account hs a) (flow from l f)
  pub fields : (account hs a).rlc.fields ≡ a.rlc.fields

-- ---- what is told of other flows

taken_apart : (from side : Side) (l lcid : ℕ) (layout : Option Layout) (count : Option ℕ) (len : ℕ)
    → is_at side lcid from l ≡ false → AllByRecursion (IsApart from l) (taken_as layout side lcid count len)
taken_apart from side l lcid None count len apart = tt
taken_apart from side l lcid (Some layouts.Tm) count len apart = tt
taken_apart from side l lcid (Some (layouts.Um bits pdcp.Srb)) count len apart = tt
taken_apart from side l lcid (Some (layouts.Um bits (pdcp.Um own))) count len apart = (tt, tt)
taken_apart from side l lcid (Some (layouts.Um bits (pdcp.Am own))) count len apart = tt
taken_apart from side l lcid (Some (layouts.Am pdcp.Srb)) count len apart = (apart, tt)
taken_apart from side l lcid (Some (layouts.Am (pdcp.Um own))) count len apart = (apart, tt)
taken_apart from side l lcid (Some (layouts.Am (pdcp.Am own))) count len apart = (apart, tt)

report_apart : (from side : Side) (l lcid : ℕ) (layout : Option Layout) (len : ℕ) → is_at side lcid from l ≡ false
    → AllByRecursion (IsApart from l) (report_as layout side lcid len)
report_apart from side l lcid None len apart = tt
report_apart from side l lcid (Some layouts.Tm) len apart = tt
report_apart from side l lcid (Some (layouts.Um bits kind)) len apart = tt
report_apart from side l lcid (Some (layouts.Am pdcp.Srb)) len apart = tt
report_apart from side l lcid (Some (layouts.Am (pdcp.Um own))) len apart = tt
report_apart from side l lcid (Some (layouts.Am (pdcp.Am own))) len apart = (apart, tt)

reorder_apart : (from side : Side) (l lcid : ℕ) (layout : Option Layout) (e : FlowEvent) (u : UmEvent) → IsIdle e
    → AllByRecursion (IsApart from l) (reorder_as layout side lcid e u)
reorder_apart from side l lcid None e u idle = (inr idle, tt)
reorder_apart from side l lcid (Some layouts.Tm) e u idle = (inr idle, tt)
reorder_apart from side l lcid (Some (layouts.Um bits kind)) e u idle = (tt, tt)
reorder_apart from side l lcid (Some (layouts.Am kind)) e u idle = (inr idle, tt)

-- ---- where PDCP gives nothing

pub none_given : (bits l : ℕ) (b : Bool) (event : Event) → given_in bits event ≡ []
    → only_if b (entries_given bits (told_on l (event ∷ []))) ≡ []
none_given bits l false event e = refl
none_given bits l true event e = by (is_on l event)
  where
    by : (c : Bool) → entries_of (flat_map (given_in bits) (if c then event ∷ [] else [])) ≡ []
    by true = ap (λ (gs : List Given). entries_of (gs ++ [])) e
    by false = refl

gives_none : (from : Side) (l : ℕ) (a : Account) (hs : List AccountEntry) (f : Histories) → hs ≡ []
    → Agrees a (flow from l f) → IsGiven from l a hs f
gives_none from l a hs f none h =
    subst (λ (xs : List AccountEntry). IsGiven from l a xs f) (sym none) (record { agrees = h; fields = refl })

apart_gives : (from : Side) (l : ℕ) (ts : List Told) (a : Account) (hs : List AccountEntry) (f : Histories) → hs ≡ []
    → AllByRecursion (IsApart from l) ts → Agrees a (flow from l f) → IsGiven from l a hs (all_told histories ts f)
apart_gives from l ts a hs f none apart h =
    gives_none from l a hs (all_told histories ts f) none (apart_all from l ts a f apart h)

-- ---- a PDU of PDCP that RLC takes

abbrev Takes : ℕ → Side → ℕ → Side → ℕ → Option ℕ → ℕ → List AccountEntry
Takes bits from l side lcid count len =
    only_if (is_same side from) (entries_given bits (told_on l (events.Take lcid count len ∷ [])))

take_elsewhere : (bits l lcid len : ℕ) (from side : Side) (count : Option ℕ) → is_at side lcid from l ≡ false
    → Takes bits from l side lcid count len ≡ []
take_elsewhere bits l lcid len from side count = by (is_same side from) (lcid == l)
  where
    by : (b c : Bool) → (b && c) ≡ false
        → only_if b (entries_of (flat_map (given_in bits) (if c then events.Take lcid count len ∷ [] else []))) ≡ []
    by true true e = absurd (let bad = e in cc)
    by true false e = refl
    by false c e = refl

take_own : (bits l lcid len count : ℕ) (from side : Side) → is_same side from ≡ true → (lcid == l) ≡ true
    → Takes bits from l side lcid (Some count) len ≡ Gives (record { count = Some count; size = len + 2 }) ∷ []
take_own bits l lcid len count from side = by (is_same side from) (lcid == l)
  where
    by : (b c : Bool) → b ≡ true → c ≡ true
        → only_if b (entries_of (flat_map (given_in bits) (if c then events.Take lcid (Some count) len ∷ [] else [])))
        ≡ Gives (record { count = Some count; size = len + 2 }) ∷ []
    by true true p q = refl
    by true false p q = absurd (let bad = q in cc)
    by false c p q = absurd (let bad = p in cc)

abbrev Reports : ℕ → Side → ℕ → Side → ℕ → ℕ → List ℕ → List AccountEntry
Reports bits from l side lcid fms bitmap =
    only_if (is_same side from) (entries_given bits (told_on l (events.Report lcid fms bitmap ∷ [])))

report_elsewhere : (bits l lcid fms : ℕ) (bitmap : List ℕ) (from side : Side) → is_at side lcid from l ≡ false
    → Reports bits from l side lcid fms bitmap ≡ []
report_elsewhere bits l lcid fms bitmap from side = by (is_same side from) (lcid == l)
  where
    by : (b c : Bool) → (b && c) ≡ false
        → only_if b (entries_of (flat_map (given_in bits) (if c then events.Report lcid fms bitmap ∷ [] else []))) ≡ []
    by true true e = absurd (let bad = e in cc)
    by true false e = refl
    by false c e = refl

abbrev report_size : ℕ → List ℕ → ℕ
report_size bits bitmap = (if bits == 12 then 2 else 3) + length bitmap

report_own : (bits l lcid fms : ℕ) (bitmap : List ℕ) (from side : Side) → is_same side from ≡ true
    → (lcid == l) ≡ true
    → Reports bits from l side lcid fms bitmap ≡ Gives (record { count = None; size = report_size bits bitmap }) ∷ []
report_own bits l lcid fms bitmap from side = by (is_same side from) (lcid == l)
  where
    by : (b c : Bool) → b ≡ true → c ≡ true
        → only_if b (entries_of (flat_map (given_in bits) (if c then events.Report lcid fms bitmap ∷ [] else [])))
        ≡ Gives (record { count = None; size = report_size bits bitmap }) ∷ []
    by true true p q = refl
    by true false p q = absurd (let bad = q in cc)
    by false c p q = absurd (let bad = p in cc)

own_side : (side from : Side) → is_same side from ≡ true → side ≡ from
own_side Nb Nb e = refl
own_side Nb Ue e = absurd (let bad = e in cc)
own_side Ue Nb e = absurd (let bad = e in cc)
own_side Ue Ue e = refl

can_be_given : (next size : ℕ) (count : Option ℕ) → is_count_of count ≡ true
    → is_possible next (PduGiven count size) ≡ true
can_be_given next size count h = h

one_given : (from side : Side) (l lcid : ℕ) (g : Given) (a : Account) (hs : List AccountEntry) (f : Histories)
    → side ≡ from → lcid ≡ l → is_count_of g.count ≡ true → hs ≡ Gives g ∷ [] → Agrees a (flow from l f)
    → IsGiven from l a hs (all_told histories (told side lcid (PduGiven g.count g.size)) f)
one_given from side l lcid g a hs f s e count is h =
    subst (λ (x : Side). IsGiven from l a hs (all_told histories (told x lcid (PduGiven g.count g.size)) f)) (sym s)
    (subst (λ (m : ℕ). IsGiven from l a hs (all_told histories (told from m (PduGiven g.count g.size)) f)) (sym e)
    (subst (λ (xs : List AccountEntry).
    IsGiven from l a xs (all_told histories (told from l (PduGiven g.count g.size)) f)) (sym is)
    (record {
      agrees = subst (λ (es : List LifeEvent). Agrees (accounted (Gives g) a) es)
          (sym (told_own from l (PduGiven g.count g.size) f
          (can_be_given (next_of (running (flow from l f))) g.size g.count count)))
          (agrees_given g a (flow from l f) h);
      fields = refl;
    })))

-- ---- an event of an end

abbrev pub Tells : Side → ℕ → ℕ → List (Option Layout) → Bool → Side → Event → Account → Histories → Type 0
Tells from l bits ks more side event a f =
    IsGiven from l a (only_if (is_same side from) (entries_given bits (told_on l (event ∷ []))))
    (all_told histories (told_by ks more side event) f)

take_gives : (from side : Side) (l bits lcid : ℕ) (ks : List (Option Layout)) (count : Option ℕ) (len : ℕ)
    (a : Account) (f : Histories) → slice_index_or ks l None ≡ Some (layouts.Am (pdcp.Am bits))
    → IsCounted l (events.Take lcid count len) → Agrees a (flow from l f)
    → IsGiven from l a (Takes bits from l side lcid count len)
    (all_told histories (taken_as (slice_index_or ks lcid None) side lcid count len) f)
take_gives from side l bits lcid ks count len a f layout has h = by (is_at side lcid from l) refl count has
  where
    known : (m : ℕ) → m ≡ l → slice_index_or ks m None ≡ Some (layouts.Am (pdcp.Am bits))
    known m e = ap (λ (k : ℕ). slice_index_or ks k None) e ∙ layout

    by : (b : Bool) → is_at side lcid from l ≡ b → (count : Option ℕ) → IsCounted l (events.Take lcid count len)
        → IsGiven from l a (Takes bits from l side lcid count len)
        (all_told histories (taken_as (slice_index_or ks lcid None) side lcid count len) f)
    by false e count has =
        apart_gives from l (taken_as (slice_index_or ks lcid None) side lcid count len) a
        (Takes bits from l side lcid count len) f (take_elsewhere bits l lcid len from side count e)
        (taken_apart from side l lcid (slice_index_or ks lcid None) count len e) h
    by true e None has =
        absurd (has (eqb-true lcid l (and_parts (is_same side from) (lcid == l) e).1))
    by true e (Some n) has =
        let both = and_parts (is_same side from) (lcid == l) e in
        let same = eqb-true lcid l both.1 in
        subst (λ (o : Option Layout). IsGiven from l a (Takes bits from l side lcid (Some n) len)
        (all_told histories (taken_as o side lcid (Some n) len) f)) (sym (known lcid same))
        (one_given from side l lcid (record { count = Some n; size = len + 2 }) a
        (Takes bits from l side lcid (Some n) len) f (own_side side from both.0) same
        (lt-ltb n (2 ^ 32) (has same)) (take_own bits l lcid len n from side both.0 both.1) h)

report_gives : (from side : Side) (l bits lcid fms : ℕ) (ks : List (Option Layout)) (bitmap : List ℕ)
    (a : Account) (f : Histories) → slice_index_or ks l None ≡ Some (layouts.Am (pdcp.Am bits))
    → Agrees a (flow from l f)
    → IsGiven from l a (Reports bits from l side lcid fms bitmap)
    (all_told histories (report_as (slice_index_or ks lcid None) side lcid (length bitmap)) f)
report_gives from side l bits lcid fms ks bitmap a f layout h = by (is_at side lcid from l) refl
  where
    known : (m : ℕ) → m ≡ l → slice_index_or ks m None ≡ Some (layouts.Am (pdcp.Am bits))
    known m e = ap (λ (k : ℕ). slice_index_or ks k None) e ∙ layout

    by : (b : Bool) → is_at side lcid from l ≡ b
        → IsGiven from l a (Reports bits from l side lcid fms bitmap)
        (all_told histories (report_as (slice_index_or ks lcid None) side lcid (length bitmap)) f)
    by false e =
        apart_gives from l (report_as (slice_index_or ks lcid None) side lcid (length bitmap)) a
        (Reports bits from l side lcid fms bitmap) f (report_elsewhere bits l lcid fms bitmap from side e)
        (report_apart from side l lcid (slice_index_or ks lcid None) (length bitmap) e) h
    by true e =
        let both = and_parts (is_same side from) (lcid == l) e in
        let same = eqb-true lcid l both.1 in
        subst (λ (o : Option Layout). IsGiven from l a (Reports bits from l side lcid fms bitmap)
        (all_told histories (report_as o side lcid (length bitmap)) f)) (sym (known lcid same))
        (one_given from side l lcid (record { count = None; size = report_size bits bitmap }) a
        (Reports bits from l side lcid fms bitmap) f (own_side side from both.0) same refl
        (report_own bits l lcid fms bitmap from side both.0 both.1) h)

pub event_gives : (from side : Side) (l bits : ℕ) (ks : List (Option Layout)) (more : Bool) (event : Event)
    (a : Account) (f : Histories) → slice_index_or ks l None ≡ Some (layouts.Am (pdcp.Am bits)) → IsCounted l event
    → Agrees a (flow from l f) → Tells from l bits ks more side event a f
event_gives from side l bits ks more (events.Take lcid count len) a f layout has h =
    take_gives from side l bits lcid ks count len a f layout has h
event_gives from side l bits ks more (events.Report lcid fms bitmap) a f layout has h =
    report_gives from side l bits lcid fms ks bitmap a f layout h
event_gives from side l bits ks more (events.Start lcid Reorder) a f layout has h =
    apart_gives from l (told_by ks more side (events.Start lcid Reorder)) a _ f
    (none_given bits l (is_same side from) (events.Start lcid Reorder) refl)
    (reorder_apart from (other side) l lcid (slice_index_or ks lcid None) ReorderStarted um.ReorderStarted tt) h
event_gives from side l bits ks more (events.Expired lcid Reorder) a f layout has h =
    apart_gives from l (told_by ks more side (events.Expired lcid Reorder)) a _ f
    (none_given bits l (is_same side from) (events.Expired lcid Reorder) refl)
    (reorder_apart from (other side) l lcid (slice_index_or ks lcid None) ReorderExpired um.ReorderExpired tt) h
event_gives from side l bits ks more (events.Expired lcid Poll) a f layout has h =
    apart_gives from l (told_by ks more side (events.Expired lcid Poll)) a _ f
    (none_given bits l (is_same side from) (events.Expired lcid Poll) refl) (inr tt, tt) h
event_gives from side l bits ks more (events.Expired lcid Prohibit) a f layout has h =
    gives_none from l a _ f (none_given bits l (is_same side from) (events.Expired lcid Prohibit) refl) h
event_gives from side l bits ks more (events.Start lcid Poll) a f layout has h =
    gives_none from l a _ f (none_given bits l (is_same side from) (events.Start lcid Poll) refl) h
event_gives from side l bits ks more (events.Start lcid Prohibit) a f layout has h =
    gives_none from l a _ f (none_given bits l (is_same side from) (events.Start lcid Prohibit) refl) h
event_gives from side l bits ks more event a f layout has h =
    gives_none from l a _ f (none_given bits l (is_same side from) event refl) h

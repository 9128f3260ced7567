-- The PDU of a transparent bearer in a new block, as its `send` record names it: the SDU that is taken just before,
-- since what an end tells of a block stands together, and so does what each of its bearers tells (TS 36.322 5.1.1.1).
use Rattle.std.proofs.Common.{◌≡◌, ℕ, ◌-◌, ◌==◌, ◌&&◌, ◌||◌, not, Bool, true, false, if◌then◌else◌, Option, Some, None}
use Rattle.std.proofs.Common.{List, is_none, [], ◌∷◌, ◌++◌, map, length, append-nil, append_assoc, refl, ap, sym}
use Rattle.std.proofs.Common.{subst, ◌∙◌, arith}
use Rattle.std.specs.List.{AllByRecursion}
use Rattle.std.proofs.lemmas.Bool.{eq-eqb}
use Rattle.std.proofs.lemmas.List.{length-append, map-append}
use Rattle.std.proofs.lemmas.List.Elements.{filter-append}
use Rattle.air_record.specs.declared.record.Record.{Record}
use Rattle.air_record.specs.declared.record.Record.TheVariants as records
use Rattle.air_record.specs.Submissions.{submitted_by}
use Rattle.air_text.specs.Groups.{Group}
use Rattle.bearer.specs.Transparent.{data_told}
use Rattle.bearer.specs.Taking.{pdus, told as tells_of_taking}
use Rattle.bearer.specs.declared.flow.Flow.{Flow as BearerFlow}
use Rattle.bearer.specs.declared.flow.Flow.TheVariants.{Tm, Um, Am}
use Rattle.bearer_pdcp.specs.Telling.{pdus_of}
use Rattle.bearer_types.specs.Sides.{is_same}
use Rattle.bearer_types.specs.declared.event.Event.{Event}
use Rattle.bearer_types.specs.declared.event.Event.TheVariants as events
use Rattle.harq.specs.declared.sender.Order.{Order}
use Rattle.harq.specs.declared.sender.Visit.TheVariants.{New}
use Rattle.l2_node.specs.Building.{visit, visited}
use Rattle.l2_node.specs.End.{End}
use Rattle.l2_node.specs.Finding.{has}
use Rattle.l2_types.specs.declared.channel.Channel.{Channel}
use Rattle.l2_types.specs.declared.event.How.TheVariants as hows
use Rattle.l2_types.specs.declared.side.Side.{Side}
use Rattle.l2_types.specs.declared.side.Side.TheVariants.{Nb, Ue}
use Rattle.mac_pdu.specs.declared.builder.Sdu.{Sdu}
use Rattle.mac_pdu.specs.declared.item.Direction.{Direction}
use Rattle.mac_pdu.specs.Reading.{reading}
use Rattle.prioritise.specs.Channels.{has as has_channel}
use Rattle.promises.specs.Events.{is_of_loop, is_on, told_on}
use Rattle.promises.specs.Flows.{looped_at}
use Rattle.promises.specs.Names.{SentPdu as ToldPdu, AreNamed, Mode}
use Rattle.promises.specs.Records.{event_of, events_of}
use Rattle.promises.specs.RightForm.{sdus_in}
use Rattle.rlc_pdu.specs.declared.outcome.Taken.{Taken}
use Rattle.rlc_pdu.specs.declared.outcome.Taken.TheVariants.{Piece, Idle, Small, Shut, Held, Stopped}
use Rattle.journal_flows.specs.declared.sending.Named.{Named}
use Rattle.journal_flows.specs.Gathering.{sdus_read}
use Rattle.journal_given.specs.Supplies as given
use Rattle.journal_sent.specs.declared.checker.NamedPdu.{NamedPdu}
use Rattle.journal_sent.specs.RightSent.{AllSent, Flow}
use Rattle.journal_sent.specs.Sending.{after_record, named_of}
use Rattle.journal_sent.specs.SentFlows.{Cover, first_of, is_data, passed_by}
use Rattle.journal_sent.specs.SentPdus.{histories}
use Rattle.rlc_um.specs.Transparent.{Transparent, taken as tm_taken}
use Rattle.law_deliver.specs.AmFlow.Air.{HasCome}
use Rattle.law_deliver.specs.AmFlow.Channels.{held_of, share_of}
use Rattle.law_deliver.proofs.AmFlow.Carrying.{front, rest}
use Rattle.law_deliver.proofs.AmFlow.Channels.{channel_same}
use Rattle.law_node.specs.Calls.{Turn, Visits}
use Rattle.law_node.specs.Holding.{flow}
use Rattle.law_node.specs.Telling.{told_of}
use Rattle.law_node.specs.Waiting.{all_told, told_on_channel}
use Rattle.law_node.proofs.Telling.{tells_in_order}
use Rattle.law_run.specs.TwoEnds.Along.{StandTogether}
use Rattle.law_run.proofs.AnyCalls.Going.{told_both as events_both}
use Rattle.law_run.proofs.EmptyLists.{parts_empty}
use Rattle.law_run.proofs.Flowing.{looped_then}
use Rattle.law_sent.specs.Channels.{SentPdu, flow_on, pdus_on}
use Rattle.law_sent.proofs.ChannelsNamed.{as_named}
use Rattle.law_sent.proofs.FlowsNamed.{names_on, passed_left, passed_on, passed_pdus, sends_what_is_passed}
use Rattle.law_sound.specs.LoadLaws.{name_of}
use Rattle.law_sound.specs.NamedSteps.{SendsNoNewBlock}
use Rattle.law_sound.proofs.QueueBeside.{IsQueuedBy}
use Rattle.law_sound.proofs.QueueRecords.{first_unsubmitted, flow_stays}
use Rattle.law_sound.proofs.SentPdus.{ReadsAs}
use Rattle.law_sound.proofs.SentRecords.{giving_before, sending_first, sending_next, told_both}

-- ---- what stands together among records does so among the first of them, where the others tell nothing of the side

abbrev pub IsOfEnd : Event → Type 0
IsOfEnd event = is_of_loop event ≡ false

one_end : (same loop : Bool) (e : Event) (es : List Event) → is_of_loop e ≡ loop → AllByRecursion IsOfEnd es
    → AllByRecursion IsOfEnd ((if same && not loop then e ∷ [] else []) ++ es)
one_end true true e es q h = h
one_end true false e es q h = (q, h)
one_end false loop e es q h = h

pub tells_ends : (side : Side) (xs : List Record) → AllByRecursion IsOfEnd (events_of side xs)
tells_ends side [] = tt
tells_ends side (records.Of at event ∷ xs) =
    one_end (is_same side at) (is_of_loop event) event (events_of side xs) refl (tells_ends side xs)
tells_ends side (one ∷ xs) = tells_ends side xs

own_event : (side : Side) (e : Event) → is_of_loop e ≡ false → event_of side (records.Of side e) ≡ e ∷ []
own_event Nb e own = ap (λ (loop : Bool). if not loop then e ∷ [] else []) own
own_event Ue e own = ap (λ (loop : Bool). if not loop then e ∷ [] else []) own

module _ (side : Side) where
  abbrev of_side : List Event → List Record
  of_side es = map (λ (e : Event). records.Of side e) es

  front_first : (es : List Event) (first rest behind : List Record) → AllByRecursion IsOfEnd es
      → events_of side rest ≡ [] → first ++ rest ≡ of_side es ++ behind
      → (more : List Record) × (first ≡ of_side es ++ more)
  front_first [] first rest behind ends none are = (first, refl)
  front_first (e ∷ es) [] rest behind ends none are =
      let quiet = (parts_empty (event_of side (records.Of side e)) (events_of side (of_side es ++ behind))
      (sym (ap (events_of side) are) ∙ none)).0 in
      let one : e ∷ [] ≡ [] = sym (own_event side e ends.0) ∙ quiet in
      absurd cc
  front_first (e ∷ es) (z ∷ first) rest behind ends none are =
      let is : z ≡ records.Of side e = cc in
      let others : first ++ rest ≡ of_side es ++ behind = cc in
      let more = front_first es first rest behind ends.1 none others in
      (more.0, ap (λ (y : Record). y ∷ first) is ∙ ap (λ (zs : List Record). records.Of side e ∷ zs) more.1)

  pub first_together : (es : List Event) (before behind first rest : List Record) → AllByRecursion IsOfEnd es
      → events_of side rest ≡ [] → first ++ rest ≡ before ++ (of_side es ++ behind) → StandTogether side es first
  first_together es [] behind first rest ends none are =
      let more = front_first es first rest behind ends none are in
      record { before = []; behind = more.0; are = more.1 }
  first_together es (y ∷ before) behind [] [] ends none are = absurd cc
  first_together es (y ∷ before) behind [] (w ∷ rest) ends none are =
      let others : rest ≡ before ++ (of_side es ++ behind) = cc in
      first_together es before behind [] rest ends (parts_empty (event_of side w) (events_of side rest) none).1 others
  first_together es (y ∷ before) behind (z ∷ first) rest ends none are =
      let is : z ≡ y = cc in
      let others : first ++ rest ≡ before ++ (of_side es ++ behind) = cc in
      let more = first_together es before behind first rest ends none others in
      record {
        before = z ∷ more.before;
        behind = more.behind;
        are = ap (λ (zs : List Record). z ∷ zs) more.are;
      }

-- ---- what a bearer tells of a block stands together

pub record TellsAt (told one : List Event) : Type 0 where
  pub before : List Event
  pub behind : List Event
  pub are : told ≡ before ++ (one ++ behind)

module _ (e : End) (grant l : ℕ) (there : has l e.bearers ≡ true) where
  abbrev own_told : List Event
  own_told = tells_of_taking l (flow l e) (share_of e grant l) (held_of e l)

  channel_told : (c : Channel) → c.lcid ≡ l → told_on_channel e grant c ≡ own_told
  channel_told c same =
      ap (λ (n : ℕ). if has n e.bearers
      then tells_of_taking n (flow n e) (share_of e grant n) (held_of e n) else []) same
      ∙ ap (λ (b : Bool). if b then own_told else []) there

  pub told_together : (cs : List Channel) → has_channel l cs ≡ true → TellsAt (all_told e grant cs) own_told
  told_together [] known = absurd cc
  told_together (c ∷ cs) known = by (l == c.lcid) refl known (λ found. told_together cs found)
    where
      by : (b : Bool) → (l == c.lcid) ≡ b → (b || has_channel l cs) ≡ true
          → (has_channel l cs ≡ true → TellsAt (all_told e grant cs) own_told)
          → TellsAt (all_told e grant (c ∷ cs)) own_told
      by true same found others = record {
        before = [];
        behind = all_told e grant cs;
        are = ap (λ (es : List Event). es ++ all_told e grant cs) (channel_told c (channel_same l c.lcid same));
      }
      by false other found others =
          let more = others found in
          let first = told_on_channel e grant c in
          record {
            before = first ++ more.before;
            behind = more.behind;
            are = ap (λ (es : List Event). first ++ es) more.are
                ∙ sym (append_assoc first more.before (own_told ++ more.behind));
          }

-- ---- what is named on the channel, behind records of a group

only_pair : {A : Type 0} (xs ys : List A) (p q : A) → xs ++ (p ∷ q ∷ ys) ≡ p ∷ q ∷ [] → (xs ≡ []) × (ys ≡ [])
only_pair [] ys p q same = (refl, cc)
only_pair (x ∷ xs) ys p q same =
    let many = ap length same in
    let parts = length-append xs (p ∷ q ∷ ys) in
    absurd (omega (arith, many, parts))

named_then : (l : ℕ) (named : List NamedPdu) (n : NamedPdu) → n.lcid ≡ l
    → passed_on l (named ++ n ∷ []) ≡ passed_on l named ++ n.sdu ∷ []
named_then l [] n here = ap (λ (b : Bool). (if b then n.sdu ∷ [] else []) ++ []) (eq-eqb n.lcid l here)
named_then l (m ∷ named) n here = by (m.lcid == l) (named_then l named n here)
  where
    by : (b : Bool) → passed_on l (named ++ n ∷ []) ≡ passed_on l named ++ n.sdu ∷ []
        → (if b then m.sdu ∷ [] else []) ++ passed_on l (named ++ n ∷ [])
        ≡ ((if b then m.sdu ∷ [] else []) ++ passed_on l named) ++ n.sdu ∷ []
    by true more = ap (λ (os : List (Option (List ℕ))). m.sdu ∷ os) more
    by false more = more

unnamed : (here : Bool) (e : Event) → (if here then e ∷ [] else []) ≡ [] → here ≡ false
unnamed true e quiet = absurd cc
unnamed false e quiet = refl

-- a record that tells nothing of the side on the channel names none there
none_named : (side : Side) (l : ℕ) (one : Record) → SendsNoNewBlock one → told_on l (event_of side one) ≡ []
    → names_on side l one ≡ false
none_named Nb l (records.Of Nb (events.Send lcid how sn)) unsent quiet =
    unnamed (lcid == l) (events.Send lcid how sn) quiet
none_named Ue l (records.Of Ue (events.Send lcid how sn)) unsent quiet =
    unnamed (lcid == l) (events.Send lcid how sn) quiet
none_named Nb l (records.Of Ue (events.Send lcid how sn)) unsent quiet = refl
none_named Ue l (records.Of Nb (events.Send lcid how sn)) unsent quiet = refl
none_named side l (records.Block direction process true version octets) unsent quiet = absurd unsent
none_named side l (records.Block direction process false version octets) unsent quiet = refl
none_named side l one unsent quiet = refl

module _ (side : Side) (l : ℕ) (now : Group) (past : List Group) where
  abbrev names_at : List Record → List (Option (List ℕ))
  names_at told = passed_on l (named_of side (sending_first now past told))

  names_stay : (ys told : List Record) → AllByRecursion SendsNoNewBlock ys → told_on l (events_of side ys) ≡ []
      → names_at (told ++ ys) ≡ names_at told
  names_stay [] told unsent quiet = ap names_at (append-nil told)
  names_stay (one ∷ ys) told unsent quiet =
      let parts = parts_empty (told_on l (event_of side one)) (told_on l (events_of side ys))
      (sym (told_both l side one ys) ∙ quiet) in
      ap names_at (sym (append_assoc told (one ∷ []) ys))
      ∙ names_stay ys (told ++ one ∷ []) unsent.1 parts.1
      ∙ ap (λ (s : AllSent). passed_on l (named_of side s)) (sending_next now past told one)
      ∙ passed_left side l one (giving_before now past told one) (sending_first now past told)
      (none_named side l one unsent.0 parts.0)

  abbrev taken : ℕ → Event
  taken len = events.Take l None len

  abbrev sent : Event
  sent = events.Send l hows.Tm 0

  -- an SDU is taken, and its PDU named just behind
  names_pair : (told : List Record) (len : ℕ) (f : Flow) → submitted_by now.line ≡ None
      → flow_on side l (sending_first now past told) ≡ Some f → f.cover ≡ None
      → names_at ((told ++ records.Of side (taken len) ∷ []) ++ records.Of side sent ∷ [])
      ≡ names_at told ++ passed_by f ∷ []
  names_pair told len f none stands plain =
      let one = records.Of side (taken len) in
      let two = records.Of side sent in
      let s = sending_first now past told in
      let behind_one = told ++ one ∷ [] in
      ap (λ (z : AllSent). passed_on l (named_of side z))
      (sending_next now past behind_one two
      ∙ ap (after_record histories given.histories two (giving_before now past behind_one two))
      (sending_next now past told one))
      ∙ ap (passed_on l) (sends_what_is_passed side l len (giving_before now past told one)
      (giving_before now past behind_one two) s f (first_unsubmitted now past told none) stands plain)
      ∙ named_then l (named_of side s) (record { lcid = l; how = hows.Tm; sdu = passed_by f }) refl

  -- among others that tell nothing of the channel
  names_first : (told first before behind : List Record) (len : ℕ) (f : Flow) → submitted_by now.line ≡ None
      → first ≡ before ++ (records.Of side (taken len) ∷ records.Of side sent ∷ behind)
      → told_on l (events_of side first) ≡ taken len ∷ sent ∷ [] → AllByRecursion SendsNoNewBlock first
      → looped_at side l first ≡ [] → is_data f.layout ≡ false
      → flow_on side l (sending_first now past told) ≡ Some f → f.cover ≡ None → names_at told ≡ []
      → names_at (told ++ first) ≡ passed_by f ∷ []
  names_first told first before behind len f none are told_is unsent unlooped data' stands plain nothing =
      let pair = records.Of side (taken len) ∷ records.Of side sent ∷ [] in
      let unsents = subst (AllByRecursion SendsNoNewBlock) are unsent in
      let before_unsent = front SendsNoNewBlock before (pair ++ behind) unsents in
      let behind_unsent = (rest SendsNoNewBlock before (pair ++ behind) unsents).1.1 in
      let told_parts = only_pair (told_on l (events_of side before)) (told_on l (events_of side behind)) (taken len)
      sent (sym parts_told ∙ told_is) in
      let loops = parts_empty (looped_at side l before) (looped_at side l (pair ++ behind))
      (sym (ap (looped_at side l) are ∙ looped_then side l before (pair ++ behind)) ∙ unlooped) in
      let flow_before = flow_stays l now past none side before told f before_unsent data' told_parts.0 loops.0 stands in
      let at = told ++ before in
      ap names_at (ap (λ (zs : List Record). told ++ zs) are
      ∙ sym (append_assoc told before (pair ++ behind))
      ∙ sym (append_assoc at (records.Of side (taken len) ∷ []) (records.Of side sent ∷ behind))
      ∙ sym (append_assoc (at ++ records.Of side (taken len) ∷ []) (records.Of side sent ∷ []) behind))
      ∙ names_stay behind ((at ++ records.Of side (taken len) ∷ []) ++ records.Of side sent ∷ []) behind_unsent
      told_parts.1
      ∙ names_pair at len f none flow_before plain
      ∙ ap (λ (os : List (Option (List ℕ))). os ++ passed_by f ∷ [])
      (names_stay before told before_unsent told_parts.0 ∙ nothing)
    where
      both_told : (es : List Event) → told_on l (taken len ∷ sent ∷ es) ≡ taken len ∷ sent ∷ told_on l es
      both_told es =
          let more = told_on l es in
          ap (λ (b : Bool). let other = if b then sent ∷ more else more in if b then taken len ∷ other else other)
          (eq-eqb l l refl)

      pair_told : (z : Side)
          → told_on l (events_of z (records.Of z (taken len) ∷ records.Of z sent ∷ behind))
          ≡ taken len ∷ sent ∷ told_on l (events_of z behind)
      pair_told Nb = both_told (events_of Nb behind)
      pair_told Ue = both_told (events_of Ue behind)

      parts_told : told_on l (events_of side first)
          ≡ told_on l (events_of side before) ++ (taken len ∷ sent ∷ told_on l (events_of side behind))
      parts_told =
          let pair = records.Of side (taken len) ∷ records.Of side sent ∷ behind in
          let es = events_of side before in
          ap (λ (zs : List Record). told_on l (events_of side zs)) are
          ∙ ap (told_on l) (events_both side before pair es (events_of side pair) refl refl)
          ∙ filter-append (is_on l) es (events_of side pair)
          ∙ ap (λ (zs : List Event). told_on l es ++ zs) (pair_told side)

  -- ---- so the PDU of the channel carries what is passed on

  abbrev IsPassed : Flow → SentPdu → Type 0
  IsPassed f p = p.passed ≡ first_of f.waiting

  each_passed : (f : Flow) (ps : List SentPdu) → f.cover ≡ None
      → map (λ (p : SentPdu). p.passed) ps ≡ passed_by f ∷ [] → AllByRecursion (IsPassed f) ps
  each_passed f [] plain are = tt
  each_passed f (p ∷ []) plain are =
      let first : p.passed ≡ passed_by f = cc in
      (first ∙ ap (λ (c : Option Cover). if is_none c then first_of f.waiting else None) plain, tt)
  each_passed f (p ∷ q ∷ ps) plain are = absurd cc

  module _ (told first : List Record) (said : List Event) (f : Flow) (ps : List SentPdu)
      (none : submitted_by now.line ≡ None) (stand : StandTogether side said first)
      (unsent : AllByRecursion SendsNoNewBlock first) (unlooped : looped_at side l first ≡ [])
      (data' : is_data f.layout ≡ false) (stands : flow_on side l (sending_first now past told) ≡ Some f)
      (plain : f.cover ≡ None) (nothing : names_at told ≡ [])
      (are : map (λ (p : SentPdu). p.passed) ps ≡ names_at (told ++ first)) where
    none_passed : ps ≡ [] → AllByRecursion (IsPassed f) ps
    none_passed empty = subst (AllByRecursion (IsPassed f)) (sym empty) tt

    -- by what RLC answers
    pub passed_first : (r : Taken) → TellsAt said (data_told l r) → told_on l (events_of side first) ≡ data_told l r
        → (pdus_of r ≡ [] → ps ≡ []) → AllByRecursion (IsPassed f) ps
    passed_first (Piece number whole polled octets) at told_is empty =
        let len = length octets in
        let pair = taken len ∷ sent ∷ at.behind in
        let all = stand.before ++ map (λ (e : Event). records.Of side e) at.before in
        each_passed f ps plain
        (are
        ∙ names_first told first all (map (λ (e : Event). records.Of side e) at.behind ++ stand.behind) len f none
        (stand.are
        ∙ ap (λ (es : List Event). stand.before ++ (map (λ (e : Event). records.Of side e) es ++ stand.behind)) at.are
        ∙ ap (λ (zs : List Record). stand.before ++ (zs ++ stand.behind))
        (map-append (λ (e : Event). records.Of side e) at.before pair)
        ∙ ap (λ (zs : List Record). stand.before ++ zs)
        (append_assoc (map (λ (e : Event). records.Of side e) at.before)
        (map (λ (e : Event). records.Of side e) pair) stand.behind)
        ∙ sym (append_assoc stand.before (map (λ (e : Event). records.Of side e) at.before)
        (map (λ (e : Event). records.Of side e) pair ++ stand.behind)))
        told_is unsent unlooped data' stands plain nothing)
    passed_first Idle at told_is empty = none_passed (empty refl)
    passed_first Small at told_is empty = none_passed (empty refl)
    passed_first Shut at told_is empty = none_passed (empty refl)
    passed_first Held at told_is empty = none_passed (empty refl)
    passed_first Stopped at told_is empty = none_passed (empty refl)

-- ---- the PDUs of a block, and those that are named, stand on the same channels

same_lcids : (modes : ℕ → Option Mode) (named : List NamedPdu) (sent : List ToldPdu) (sdus : List Sdu)
    → AreNamed modes sent sdus → as_named named ≡ map name_of sent
    → map (λ (n : NamedPdu). n.lcid) named ≡ map (λ (d : Sdu). d.lcid) sdus
same_lcids modes [] [] [] are same = refl
same_lcids modes [] [] (d ∷ sdus) are same = absurd are
same_lcids modes [] (s ∷ sent) sdus are same = absurd cc
same_lcids modes (n ∷ named) [] sdus are same = absurd cc
same_lcids modes (n ∷ named) (s ∷ sent) [] are same = absurd are
same_lcids modes (n ∷ named) (s ∷ sent) (d ∷ sdus) are same =
    let first : record { lcid = n.lcid; how = n.how } ≡ name_of s = cc in
    let rest : as_named named ≡ map name_of sent = cc in
    ap (λ (m : ℕ). m ∷ map (λ (n : NamedPdu). n.lcid) named) (ap (λ (z : Named). z.lcid) first ∙ sym are.0)
    ∙ ap (λ (ms : List ℕ). d.lcid ∷ ms) (same_lcids modes named sent sdus are.2 rest)

pub passed_in : (l : ℕ) (direction : Direction) (octets : List ℕ) (sent : List ToldPdu) (named : List NamedPdu)
    → ReadsAs direction octets sent → as_named named ≡ map name_of sent
    → map (λ (p : SentPdu). p.passed) (pdus_on l named (sdus_read (reading direction octets))) ≡ passed_on l named
passed_in l direction octets sent named r same =
    let sdus = sdus_read (reading direction octets) in
    let read : sdus ≡ sdus_in r.items = ap sdus_read r.read in
    passed_pdus l named sdus
    (same_lcids r.modes named sent (sdus_in r.items) r.named same
    ∙ ap (λ (ds : List Sdu). map (λ (d : Sdu). d.lcid) ds) (sym read))

-- where none is named
pub none_passed_on : (l : ℕ) (named : List NamedPdu) → as_named named ≡ [] → passed_on l named ≡ []
none_passed_on l [] none = refl
none_passed_on l (n ∷ named) none = absurd cc

-- ---- a bearer whose PDUs PDCP doesn't cover is transparent

pub is_transparent : (x : BearerFlow) (f : Flow) → IsQueuedBy x f → f.cover ≡ None → (b : Transparent) × (x ≡ Tm b)
is_transparent (Tm b) f h plain = (b, refl)
is_transparent (Um b) f h plain = let some = h.queue.cover_is in absurd cc
is_transparent (Am b) f h plain = let some = h.queue.cover_is in absurd cc

pub transparent_tells : (l : ℕ) (b : Transparent) (share : ℕ) (held : Option ℕ)
    → tells_of_taking l (Tm b) share held ≡ data_told l (tm_taken b (share - 3))
unfolding tells_of_taking
transparent_tells l b share held = refl

pub transparent_writes : (b : Transparent) (share : ℕ) (held : Option ℕ)
    → pdus (Tm b) share held ≡ pdus_of (tm_taken b (share - 3))
unfolding pdus
transparent_writes b share held = refl

-- ---- what an end tells of a new block

visited_there : (l tti : ℕ) (order : Order) (e : End) → has l (visited tti order e).bearers ≡ has l e.bearers
unfolding visited
visited_there l tti order e = refl

new_told : (side : Side) (e : End) (t : Turn) → HasCome side e → visit t.tti t.order e ≡ New
    → told_of e (Visits t) ≡ all_told (visited t.tti t.order e) t.grant (visited t.tti t.order e).buckets.channels
new_told side e t h =
    subst (λ (x : End). visit t.tti t.order x ≡ New
    → told_of x (Visits t) ≡ all_told (visited t.tti t.order x) t.grant (visited t.tti t.order x).buckets.channels)
    (sym h.end_is)
    (tells_in_order side h.maximum h.reports h.past h.given t.tti t.grant t.order)

pub new_together : (side : Side) (l : ℕ) (e : End) (t : Turn) → HasCome side e → visit t.tti t.order e ≡ New
    → has l e.bearers ≡ true → has_channel l (visited t.tti t.order e).buckets.channels ≡ true
    → TellsAt (told_of e (Visits t)) (tells_of_taking l (flow l (visited t.tti t.order e))
    (share_of (visited t.tti t.order e) t.grant l) (held_of (visited t.tti t.order e) l))
new_together side l e t come new there known =
    let u = visited t.tti t.order e in
    subst (λ (es : List Event). TellsAt es (tells_of_taking l (flow l u) (share_of u t.grant l) (held_of u l)))
    (sym (new_told side e t come new))
    (told_together u t.grant l (visited_there l t.tti t.order e ∙ there) u.buckets.channels known)

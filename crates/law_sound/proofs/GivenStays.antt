-- The group of a line that is neither a handover, nor a submission, nor that of the channel's own bearers: what is
-- gathered of what PDCP gives RLC of acknowledged data goes on beside both ends.
use Rattle.std.proofs.Common.{◌≡◌, ◌≤◌, ℕ, false, List, [], ◌∷◌, ◌++◌, Option, Some, None, append-nil, append_assoc}
use Rattle.std.proofs.Common.{Bool, if◌then◌else◌, reverse, refl, ap, sym, subst, ◌∙◌}
use Rattle.std.specs.List.{AllByRecursion}
use Rattle.air_record.specs.declared.line.Line.{Line}
use Rattle.air_record.specs.declared.line.Line.TheVariants as lines
use Rattle.air_record.specs.declared.record.Record.{Record}
use Rattle.air_record.specs.declared.submission.Submission.{Submission}
use Rattle.air_record.specs.Submissions.{submitted_by}
use Rattle.air_text.specs.Groups.{Group}
use Rattle.bearer_types.specs.declared.config.BearerConfig.{BearerConfig}
use Rattle.eps_sec.specs.declared.Keys.{Keys}
use Rattle.l2_node.specs.End.{End}
use Rattle.l2_types.specs.declared.channel.Kind.{Kind}
use Rattle.l2_types.specs.declared.channel.Kind.TheVariants as bearers
use Rattle.l2_types.specs.declared.side.Side.{Side}
use Rattle.l2_types.specs.declared.side.Side.TheVariants.{Nb, Ue}
use Rattle.pdcp_pdu.specs.declared.pdu.PdcpKind.{PdcpKind}
use Rattle.pdcp_pdu.specs.declared.pdu.PdcpKind.TheVariants as pdcp
use Rattle.pdu_show.specs.declared.kinds.Layout.{Layout}
use Rattle.promises.specs.Arrival.{account_of, entries_from, entries_in, entries_ended}
use Rattle.promises.specs.Blocks.{kinds}
use Rattle.promises.specs.Configs.{config_of}
use Rattle.promises.specs.Delivery.{forges}
use Rattle.promises.specs.Flows.{looped_at}
use Rattle.promises.specs.Parts.{is_handover}
use Rattle.promises.specs.Records.{events_of}
use Rattle.promises.specs.Events.{told_on}
use Rattle.journal_flows.specs.FlowsTold.{Histories, histories as flows, no_events}
use Rattle.journal_flows.specs.Gathering.{Journal, behind, behind_line, behind_end, within}
use Rattle.journal_flows.specs.Gathering as gathering
use Rattle.journal_given.specs.Giving.{bearer_begun, may_take_by}
use Rattle.journal_given.specs.Supplies.{Bearer, History, histories}
use Rattle.journal_lives.specs.FlowLives.{FlowLives}
use Rattle.law_deliver.specs.AmChannel.Delivery.{AmEndsBeginAlike, was_submitted}
use Rattle.law_deliver.specs.AmChannel.Lives.{AirStep, InLife, AreLiving, lives, lives_on, end_at, calls_at}
use Rattle.law_deliver.specs.AmFlow.Air.{Air, Step, happens, outset, IsGiven}
use Rattle.law_given.specs.BearerRecords.{bearer_first, bearer_before, bearer_over, IsRightOn}
use Rattle.law_given.specs.OneBearer.{bearer_by_line, bearer_submits}
use Rattle.law_given.proofs.BearerRecordsHistories.{one_bearer_by_histories}
use Rattle.law_given.proofs.GivenRecords.{journal_at, left_none, records_gather}
use Rattle.law_given.proofs.JoinedSteps.{lives_more}
use Rattle.law_given.proofs.Tied.{AreTied}
use Rattle.law_run.specs.Order.{IsRight, KeepsOrder}
use Rattle.law_run.specs.TwoEnds.Logs.{Flight, last_in, logged, log_at}
use Rattle.law_run.proofs.BearerWalk.{adds_one}
use Rattle.law_run.proofs.TwoEnds.Going.{tells_more}
use Rattle.law_words.specs.Arrivals.{AccountEntry, no_account, account}
use Rattle.law_sound.specs.AgreeLaws.{AgreeOn}
use Rattle.law_sound.specs.BesideLaws.{ReadRecord, behind_all}
use Rattle.law_sound.specs.ComingLaws.{TellsFlows}
use Rattle.law_sound.specs.LivedHistories.{Moment}
use Rattle.law_sound.specs.LoggedRecords.{records_of}
use Rattle.law_sound.specs.StepReading.{IsRead, IsFlightOf, AreReadTo}
use Rattle.law_sound.proofs.AgreeJournals.{journals_agree}
use Rattle.law_sound.proofs.GivenAnswers.{none_answer, agree_more}
use Rattle.law_sound.proofs.GatheredFails.{fails_still}
use Rattle.law_sound.proofs.GivenBetween.{may, IsGivenBehind, GoesBehind}
use Rattle.law_sound.proofs.GivenLife.{IsSaid, all_said, life_on, life_said}
use Rattle.law_sound.proofs.GivenMoments.{IsGivenAt}
use Rattle.law_sound.proofs.GroupBearers.{of_kind}
use Rattle.law_sound.proofs.GroupCarrying.{StaysCarrying, stays_carrying, is_submission, config_stays}
use Rattle.law_sound.proofs.LoggedEntries.{entries_of_all, records_tell}
use Rattle.law_sound.proofs.LoggedEvents.{HearsNone, events_in, none_comes_in, records_events}
use Rattle.law_sound.proofs.Records.{account_both}
use Rattle.law_sound.proofs.StepCarrying.{AllSaid, Carries}

-- ---- lines

unsubmitted_line : (line : Line) → is_submission line ≡ false → submitted_by line ≡ None
unsubmitted_line (lines.Submit side lcid octets) h = absurd cc
unsubmitted_line line h = refl

pub kept_by_line : (l : ℕ) (line : Line) (b : Option (Bearer History)) → adds_one l line ≡ false
    → bearer_by_line histories l line b ≡ b
kept_by_line l (lines.Bearer config options) b other =
    ap (λ (here : Bool). if here
    then bearer_begun histories config.kind config.first config.pdcp_bits else b) other
kept_by_line l line b other = refl

none_ended : (line : Line) → is_handover line ≡ false → entries_ended line ≡ []
none_ended (lines.Handover user rrc integrity) h = absurd cc
none_ended line h = refl

no_handover : (line : Line) → is_handover line ≡ false → gathering.is_handover line ≡ false
no_handover (lines.Handover user rrc integrity) h = absurd cc
no_handover line h = refl

none_over : (over : Bool) → over ≡ false → (of_nb of_ue : Option FlowLives) (b : Option (Bearer History))
    → bearer_over over of_nb of_ue b ≡ b
none_over over stays of_nb of_ue b = ap (λ (ended : Bool). bearer_over ended of_nb of_ue b) stays

living_on : (l : ℕ) (steps : List AirStep) (s : Step) (a : Air) → AreLiving l a steps → IsGiven l (lives steps a) s
    → AreLiving l a (steps ++ InLife s ∷ [])
living_on l [] s a h g = (g, tt)
living_on l (x ∷ steps) s a h g = (h.0, living_on l steps s (lives_on a x) h.1 g)

-- ---- within the group

-- both are said of each record
pub both_said : (One Other : List Record → ReadRecord → Type 0) (told : List Record) (xs : List ReadRecord)
    → AllSaid One told xs → AllSaid Other told xs
    → AllSaid (λ (before : List Record) (x : ReadRecord). One before x × Other before x) told xs
both_said One Other told [] p q = tt
both_said One Other told (x ∷ xs) p q = ((p.0, q.0), both_said One Other (told ++ x.one ∷ []) xs p.1 q.1)

module _ (newer : List Group) (c : BearerConfig) (l : ℕ) (past : List Group) (g : Group) (low : l ≤ 10)
    (none : submitted_by g.line ≡ None) (keys : Keys) (nb ue : End) (begins : AmEndsBeginAlike l c keys nb ue)
    (flows_told : TellsFlows (g ∷ past)) (config : config_of l (g ∷ past) ≡ Some c) (data' : c.kind ≡ bearers.Am)
    (stays : is_handover g.line ≡ false) (other : adds_one l g.line ≡ false)
    (Beside : List Record → (steps : List AirStep) → AreTied l c nb ue steps → Bearer History → Type 0)
    (Also : List Record → Record → Type 0) where
  abbrev kind : PdcpKind
  kind = pdcp.Am c.pdcp_bits

  abbrev now_kinds : List (Option Layout)
  now_kinds = kinds (g ∷ past)

  -- behind the first records of the group
  abbrev Stands : List Record → List AirStep → Moment → Journal Histories → Type 0
  Stands told steps m j = IsGivenAt l c nb ue low newer g past none told steps m j

  -- what stands beside it
  abbrev StandsBeside : (told : List Record) (steps : List AirStep) (m : Moment) (j : Journal Histories)
      → Stands told steps m j → Type 0
  StandsBeside told steps m j w = Beside told steps w.tied w.gathered

  abbrev AlsoSaid : List Record → ReadRecord → Type 0
  AlsoSaid told x = Also told x.one

  module _ (steps : List AirStep) (s : Step) (m : Moment) (j : Journal Histories) (told xs others : List Record)
      (sent : Flight) (living : AreLiving l (outset nb ue) (steps ++ InLife s ∷ []))
      (given : IsGiven l (lives steps (outset nb ue)) s) (are : g.events ≡ told ++ (xs ++ others))
      (logs : logged sent xs ≡ log_at (lives steps (outset nb ue)) (InLife s))
      (looped : (side : Side) (n : ℕ) → looped_at side n xs
      ≡ was_submitted n (calls_at side (lives steps (outset nb ue)) (InLife s))
      (end_at side (lives steps (outset nb ue))))
      (flight : IsFlightOf j sent) (octets : sent.octets ≡ last_in told [])
      (r : IsRead kind l (lives steps (outset nb ue)) m j)
      (x : AreReadTo now_kinds kind l (lives steps (outset nb ue)) (InLife s ∷ []) m j xs others)
      (w : Stands told steps m j) where
    abbrev stands_on : Stands (told ++ xs) (steps ++ InLife s ∷ []) x.last (behind_all now_kinds x.reads j)
    stands_on = life_on l low newer g past none c keys nb ue begins flows_told config data' stays other steps s m j told
        xs others others sent living given are logs looped flight octets r x w

    -- it goes on with the step
    abbrev GoesBeside : Type 0
    GoesBeside = StandsBeside told steps m j w
        → StandsBeside (told ++ xs) (steps ++ InLife s ∷ []) x.last (behind_all now_kinds x.reads j) stands_on
        × AllSaid AlsoSaid told x.reads

  -- and with records that log nothing
  abbrev QuietBeside : Type 0
  QuietBeside = (steps : List AirStep) (m : Moment) (j : Journal Histories) (told : List Record) (xs : List ReadRecord)
      (others : List Record) (sent : Flight) → g.events ≡ told ++ (records_of xs ++ others)
      → logged sent (records_of xs) ≡ [] → ((side : Side) (n : ℕ) → looped_at side n (records_of xs) ≡ [])
      → IsRead kind l (lives steps (outset nb ue)) m j → (w : Stands told steps m j)
      → AgreeOn l (journal_at l low newer g past none (told ++ records_of xs)) (behind_all now_kinds xs j)
      → StandsBeside told steps m j w
      → Beside (told ++ records_of xs) steps w.tied w.gathered × AllSaid AlsoSaid told xs

  pub record GoOnBeside : Type 0 where
    pub one_step : (steps : List AirStep) (s : Step) (m : Moment) (j : Journal Histories) (told xs others : List Record)
        (sent : Flight) (living : AreLiving l (outset nb ue) (steps ++ InLife s ∷ []))
        (given : IsGiven l (lives steps (outset nb ue)) s) (are : g.events ≡ told ++ (xs ++ others))
        (logs : logged sent xs ≡ log_at (lives steps (outset nb ue)) (InLife s))
        (looped : (side : Side) (n : ℕ) → looped_at side n xs
        ≡ was_submitted n (calls_at side (lives steps (outset nb ue)) (InLife s))
        (end_at side (lives steps (outset nb ue))))
        (flight : IsFlightOf j sent) (octets : sent.octets ≡ last_in told [])
        (r : IsRead kind l (lives steps (outset nb ue)) m j)
        (x : AreReadTo now_kinds kind l (lives steps (outset nb ue)) (InLife s ∷ []) m j xs others)
        (w : Stands told steps m j)
        → GoesBeside steps s m j told xs others sent living given are logs looped flight octets r x w
    pub quiet : QuietBeside

  record Within (told : List Record) (a : Air) (m : Moment) (j : Journal Histories) : Type 0 where
    steps : List AirStep
    there : a ≡ lives steps (outset nb ue)
    living : AreLiving l (outset nb ue) steps
    given : Stands told steps m j
    beside : StandsBeside told steps m j given

  abbrev Said : List Record → ReadRecord → Type 0
  Said told x = IsSaid l low newer g past none told x

  abbrev Says : List Record → ReadRecord → Type 0
  Says told x = Said told x × Also told x.one

  module _ (goes : GoOnBeside) where
    module _ (s : Step) (m : Moment) (j : Journal Histories) (told xs others : List Record) (sent : Flight)
        (steps : List AirStep) (living : AreLiving l (outset nb ue) steps) (octets : sent.octets ≡ last_in told [])
        (are : g.events ≡ told ++ (xs ++ others)) (flight : IsFlightOf j sent) (w : Stands told steps m j)
        (v : StandsBeside told steps m j w) where
      abbrev StepCarried : Air → Type 0
      StepCarried a = IsGiven l a s → logged sent xs ≡ log_at a (InLife s)
          → ((side : Side) (n : ℕ) → looped_at side n xs ≡ was_submitted n (calls_at side a (InLife s)) (end_at side a))
          → IsRead kind l a m j → (x : AreReadTo now_kinds kind l a (InLife s ∷ []) m j xs others)
          → Within (told ++ xs) (happens a s) x.last (behind_all now_kinds x.reads j) × AllSaid Says told x.reads

      step_there : StepCarried (lives steps (outset nb ue))
      step_there given logs looped r x =
          let living' = living_on l steps s (outset nb ue) living given in
          let more = goes.one_step steps s m j told xs others sent living' given are logs looped flight octets r x w v
          in (
            record {
              steps = steps ++ InLife s ∷ [];
              there = sym (lives_more steps (InLife s ∷ []) (outset nb ue));
              living = living';
              given = life_on l low newer g past none c keys nb ue begins flows_told config data' stays other steps s m
                  j told xs others others sent living' given are logs looped flight octets r x w;
              beside = more.0;
            },
            both_said Said AlsoSaid told x.reads
                (life_said l low newer g past none c keys nb ue begins flows_told config data' stays other steps s m j
                told xs others others sent living' given are logs looped flight octets r x w) more.1,
          )

      step_at : (a : Air) → a ≡ lives steps (outset nb ue) → StepCarried a
      step_at a there = subst StepCarried (sym there) step_there

    silent_at : (a : Air) (m : Moment) (j : Journal Histories) (told : List Record) (xs : List ReadRecord)
        (others : List Record) (sent : Flight) → sent.octets ≡ last_in told []
        → g.events ≡ told ++ (records_of xs ++ others) → logged sent (records_of xs) ≡ []
        → ((side : Side) (n : ℕ) → looped_at side n (records_of xs) ≡ []) → IsRead kind l a m j → Within told a m j
        → Within (told ++ records_of xs) a m (behind_all now_kinds xs j) × AllSaid Says told xs
    silent_at a m j told xs others sent octets are logs loops r w =
        let more = records_of xs in
        let untold : (side : Side) → told_on l (events_of side more) ≡ [] = λ side.
        ap (told_on l) (records_events side sent more ∙ ap (events_in side) logs) in
        let h = records_gather l low newer g past none Nb more told [] w.given.gathered (untold Nb) (untold Ue)
        (loops Ue l) (none_comes_in sent more (subst (AllByRecursion HearsNone)
        (sym logs) tt)) w.given.is tt in
        let alike = none_answer l (may_take_by histories (newer ++ g ∷ past)) past (reverse told) xs
        untold in
        let agree = agree_more l low newer g past none told xs j w.given.agree alike in
        let also = goes.quiet w.steps m j told xs others sent are logs loops
        (subst (λ (b : Air). IsRead kind l b m j) w.there r) w.given agree w.beside in (
          record {
            steps = w.steps;
            there = w.there;
            living = w.living;
            given = record {
              tied = w.given.tied;
              account_is = λ from. w.given.account_is from
                  ∙ ap (λ (hs : List AccountEntry). account hs (account_of c l from past))
                  (sym (append-nil (entries_in c.pdcp_bits l from [] told))
                  ∙ ap (λ (hs : List AccountEntry). entries_in c.pdcp_bits l from [] told ++ hs)
                  (sym (ap (λ (block : List ℕ). entries_in c.pdcp_bits l from block more) (sym octets)
                  ∙ records_tell c.pdcp_bits l from sent more
                  ∙ ap (entries_of_all c.pdcp_bits l from) logs))
                  ∙ sym (tells_more c.pdcp_bits l from [] told more));
              gathered = w.given.gathered;
              is = h.is;
              given = w.given.given;
              agree = agree;
            };
            beside = also.0;
          },
          both_said Said AlsoSaid told xs (all_said l low newer g past none told xs h.right alike) also.1,
        )

    carries_am : Carries l kind now_kinds g.events Within Says
    carries_am = record {
      one_step = λ s a m j told xs others sent given octets are logs looped flight r x w.
          step_at s m j told xs others sent w.steps w.living octets are flight w.given w.beside a w.there given logs
          looped r x;
      silent = λ a m j told xs others sent octets are logs loops r w.
          silent_at a m j told xs others sent octets are logs loops r w;
    }

    carries : Carries l (of_kind c.kind c.pdcp_bits) now_kinds g.events Within Says
    carries =
        subst (λ (k : Kind). Carries l (of_kind k c.pdcp_bits) now_kinds g.events Within Says) (sym data') carries_am

-- ---- what is said of each of its records

said_each : (Says : List Record → ReadRecord → Type 0) (P : List Record → Record → Type 0)
    → ((told : List Record) (x : ReadRecord) → Says told x → P told x.one)
    → (told : List Record) (xs : List ReadRecord) → AllSaid Says told xs
    → (first : List Record) (one : Record) (more : List Record) → records_of xs ≡ first ++ one ∷ more
    → P (told ++ first) one
said_each Says P by told [] h [] one more are = absurd cc
said_each Says P by told [] h (x ∷ first) one more are = absurd cc
said_each Says P by told (x ∷ xs) h [] one more are =
    let same : x.one ≡ one = cc in
    subst (λ (before : List Record). P before one) (sym (append-nil told))
    (subst (λ (r : Record). P told r) same (by told x h.0))
said_each Says P by told (x ∷ xs) h (y ∷ first) one more are =
    let same : x.one ≡ y = cc in
    let others : records_of xs ≡ first ++ one ∷ more = cc in
    subst (λ (before : List Record). P before one)
    (append_assoc told (x.one ∷ []) first ∙ ap (λ (r : Record). told ++ r ∷ first) same)
    (said_each Says P by (told ++ x.one ∷ []) xs h.1 first one more others)

-- ---- behind it

-- with what stands beside it, and what else is said of each record
pub record StaysBeside (all : List Group) (c : BearerConfig) (l : ℕ) (past : List Group) (g : Group)
    (h : GoesBehind all c l past)
    (Beside : List Record → (steps : List AirStep) → AreTied l c h.given.nb h.given.ue steps → Bearer History → Type 0)
    (Also : List Record → Record → Type 0) : Type 0 where
  pub next : GoesBehind all c l (g ∷ past)
  pub steps : List AirStep
  pub tied : AreTied l c h.given.nb h.given.ue steps
  pub gathered : Bearer History
  pub beside : Beside g.events steps tied gathered
  pub one_is : tied.joined.one ≡ next.given.tied.joined.one
  pub two_is : tied.joined.two ≡ next.given.tied.joined.two
  pub bearer_is : gathered ≡ next.given.bearer
  pub said : (told : List Record) (one : Record) (rest : List Record) → g.events ≡ told ++ one ∷ rest → Also told one

module _ (newer : List Group) (c : BearerConfig) (l : ℕ) (past : List Group) (g : Group) (right : IsRight past g)
    (order : KeepsOrder past) (other : adds_one l g.line ≡ false) (own : forges g.line ≡ false)
    (here : is_handover g.line ≡ false) (unsubmitted : is_submission g.line ≡ false)
    (flows_told : TellsFlows (g ∷ past)) (data' : c.kind ≡ bearers.Am)
    (h : GoesBehind (newer ++ g ∷ past) c l past) where
  pub none_of : submitted_by g.line ≡ None
  none_of = unsubmitted_line g.line unsubmitted

  pub config_on : config_of l (g ∷ past) ≡ Some c
  config_on = config_stays l g.line (config_of l past) other ∙ h.read.is

  -- before its first record
  pub agree_first : AgreeOn l (journal_at l h.read.low newer g past none_of [])
      (behind_line flows g.line h.read.journal)
  agree_first = (journals_agree l _ _ h.given.agree).lines g.line

  module _
      (Beside : List Record → (steps : List AirStep) → AreTied l c h.given.nb h.given.ue steps → Bearer History
      → Type 0)
      (Also : List Record → Record → Type 0) where
    abbrev pub GoOn : Type 0
    GoOn = GoOnBeside newer c l past g h.read.low none_of h.given.keys h.given.nb h.given.ue h.given.begins flows_told
        config_on data' here other Beside Also

    pub stays_beside : GoOn → Beside [] h.given.steps h.given.tied h.given.bearer
        → StaysBeside (newer ++ g ∷ past) c l past g h Beside Also
    stays_beside goes begun_beside =
        let all = newer ++ g ∷ past in
        let low : l ≤ 10 = h.read.low in
        let v = h.given in
        let step = one_bearer_by_histories l newer g past low in
        let W = Within newer c l past g low none_of v.keys v.nb v.ue v.begins flows_told config_on data' here other
        Beside Also in
        let S = Says newer c l past g low none_of v.keys v.nb v.ue v.begins flows_told config_on data' here other
        Beside Also in
        let begun : W [] h.read.air h.read.moment (behind_line flows g.line h.read.journal) = record {
          steps = v.steps;
          there = v.there;
          living = v.living;
          given = record {
            tied = v.tied;
            account_is = v.account_is;
            gathered = v.bearer;
            is = step.begins ∙ (kept_by_line l g.line _ other ∙ v.is);
            given = v.given;
            agree = agree_first;
          };
          beside = begun_beside;
        } in
        let x : StaysCarrying W S (may all) c l g past h.read.journal =
        stays_carrying W S (may all) c l past g right order other own here unsubmitted h.read
        (carries newer c l past g low none_of v.keys v.nb v.ue v.begins flows_told config_on data' here other Beside
        Also goes)
        begun in
        let w = x.within in
        let given : IsGivenBehind all c l (g ∷ past) x.behind = record {
          keys = v.keys;
          nb = v.nb;
          ue = v.ue;
          begins = v.begins;
          steps = w.steps;
          living = w.living;
          there = w.there;
          tied = w.given.tied;
          account_is = λ from.
              w.given.account_is from
              ∙ sym (account_both (entries_from c.pdcp_bits l from past)
              (entries_ended g.line ++ entries_in c.pdcp_bits l from [] g.events) no_account
              ∙ ap (λ (hs : List AccountEntry).
              account (hs ++ entries_in c.pdcp_bits l from [] g.events) (account_of c l from past))
              (none_ended g.line here));
          bearer = w.given.gathered;
          is = step.ends
              ∙ none_over (gathering.is_handover g.line) (no_handover g.line here) _ _ _
              ∙ ap (λ (s : Option Submission). bearer_submits histories l s (bearer_first l g past g.events))
              (left_none l low newer g past none_of g.events)
              ∙ w.given.is;
          given = w.given.given;
          agree = subst (λ (b : Bool). AgreeOn l (behind_end flows b
              (within flows (may all) g past (behind flows no_events (may all) past))) x.behind.journal)
              (sym (no_handover g.line here)) w.given.agree;
        } in
        record {
          next = record {
            read = x.behind;
            given = given;
            said = λ told one rest are.
                said_each S (λ (before : List Record) (r : Record). IsRightOn l r (bearer_before l g past before r))
                (λ (before : List Record) (z : ReadRecord) (p : S before z). p.0.right) [] x.behind.newest.reads x.said
                told one rest (x.behind.newest.are ∙ are);
            fails = fails_still (may all) c l g past x.behind.newest h.read.journal x.behind.journal
                (no_handover g.line here) v.agree given.agree x.first_is x.journal_is;
          };
          steps = w.steps;
          tied = w.given.tied;
          gathered = w.given.gathered;
          beside = w.beside;
          one_is = refl;
          two_is = refl;
          bearer_is = refl;
          said = λ told one rest are.
              said_each S Also (λ (before : List Record) (z : ReadRecord) (p : S before z). p.1) []
              x.behind.newest.reads x.said told one rest (x.behind.newest.are ∙ are);
        }

-- ---- alone

abbrev none_beside : (l : ℕ) (c : BearerConfig) (nb ue : End) → List Record → (steps : List AirStep)
    → AreTied l c nb ue steps → Bearer History → Type 0
none_beside l c nb ue told steps tied b = Unit {0}

abbrev nothing_also : List Record → Record → Type 0
nothing_also told one = Unit {0}

also_nothing : (told : List Record) (xs : List ReadRecord)
    → AllSaid (λ (before : List Record) (x : ReadRecord). nothing_also before x.one) told xs
also_nothing told [] = tt
also_nothing told (x ∷ xs) = (tt, also_nothing (told ++ x.one ∷ []) xs)

stays_behind : (newer : List Group) (c : BearerConfig) (l : ℕ) (past : List Group) (g : Group) → IsRight past g
    → KeepsOrder past → adds_one l g.line ≡ false → forges g.line ≡ false → is_handover g.line ≡ false
    → is_submission g.line ≡ false → TellsFlows (g ∷ past) → c.kind ≡ bearers.Am
    → GoesBehind (newer ++ g ∷ past) c l past → GoesBehind (newer ++ g ∷ past) c l (g ∷ past)
stays_behind newer c l past g right order other own here unsubmitted flows_told data' h =
    (stays_beside newer c l past g right order other own here unsubmitted flows_told data' h
    (none_beside l c h.given.nb h.given.ue) nothing_also
    (record {
      one_step = λ steps s m j told xs others sent living given are logs looped flight octets r x w v.
          (tt, also_nothing told x.reads);
      quiet = λ steps m j told xs others sent are logs loops r w agree v. (tt, also_nothing told xs);
    })
    tt).next

pub stays_given : (all newer : List Group) (c : BearerConfig) (l : ℕ) (past : List Group) (g : Group)
    → all ≡ newer ++ g ∷ past → IsRight past g → KeepsOrder past → adds_one l g.line ≡ false → forges g.line ≡ false
    → is_handover g.line ≡ false → is_submission g.line ≡ false → TellsFlows (g ∷ past) → c.kind ≡ bearers.Am
    → GoesBehind all c l past → GoesBehind all c l (g ∷ past)
stays_given all newer c l past g is right order other own here unsubmitted flows_told data' =
    subst (λ (gs : List Group). GoesBehind gs c l past → GoesBehind gs c l (g ∷ past)) (sym is)
    (stays_behind newer c l past g right order other own here unsubmitted flows_told data')

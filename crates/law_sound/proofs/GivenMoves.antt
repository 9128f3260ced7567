-- Behind a handover: what is gathered of what PDCP gives RLC stands beside both ends in their next life. The SDUs that
-- the terminal's test loop submits as it begins are gathered before the last one ends, which comes to the same.
use Rattle.std.proofs.Common.{◌≡◌, ◌==◌, ◌≤◌, ℕ, Bool, true, false, if◌then◌else◌, List, [], ◌∷◌, ◌++◌, map, Option}
use Rattle.std.proofs.Common.{Some, None, append-nil, append_assoc, refl, ap, sym, subst, ◌∙◌}
use Rattle.std.specs.List.{filter}
use Rattle.air_record.specs.declared.line.Line.TheVariants as lines
use Rattle.air_record.specs.declared.record.Record.{Record}
use Rattle.air_record.specs.declared.record.Record.TheVariants as records
use Rattle.air_record.specs.Submissions.{submitted_by}
use Rattle.air_text.specs.Groups.{Group}
use Rattle.bearer_types.specs.declared.config.BearerConfig.{BearerConfig}
use Rattle.bearer_types.specs.declared.event.Event.{Event}
use Rattle.bearer_types.specs.declared.event.Event.TheVariants as events
use Rattle.eps_sec.specs.declared.Key.{Key}
use Rattle.eps_sec.specs.declared.Keys.{Keys}
use Rattle.l2_types.specs.declared.channel.Kind.TheVariants as bearers
use Rattle.l2_types.specs.declared.side.Side.{Side}
use Rattle.l2_types.specs.declared.side.Side.TheVariants.{Nb, Ue}
use Rattle.promises.specs.Arrival.{account_of, entries_from, entries_in}
use Rattle.promises.specs.Blocks.{kinds}
use Rattle.promises.specs.Flows.{loops_in}
use Rattle.promises.specs.Records.{is_looped, sdu_of}
use Rattle.journal_account.specs.FlowEvents.{FlowEvent}
use Rattle.journal_flows.specs.Accounts.{is_acked_kind, account_at}
use Rattle.journal_flows.specs.FlowsTold.{Histories, flows_told, histories as flows, no_events}
use Rattle.journal_flows.specs.Gathering.{Journal, MayTake, behind, behind_records}
use Rattle.journal_flows.specs.Laws.{bearer_on, account_by}
use Rattle.journal_given.specs.Giving.{bearer_at, all_given, lives_ended, may_take_by}
use Rattle.journal_given.specs.Laws.{SaysSo}
use Rattle.journal_given.specs.Supplies.{Bearer, History, histories}
use Rattle.journal_lives.specs.FlowLives.{FlowLives}
use Rattle.journal_lives.specs.LifeEvents.{LifeEvent, LifeEnded, running}
use Rattle.law_deliver.specs.AmChannel.Arrival.{told_from}
use Rattle.law_deliver.specs.AmChannel.Lives.{AirStep, Moves, AreLiving, lives, lives_on}
use Rattle.law_deliver.specs.AmFlow.Air.{Air, outset}
use Rattle.law_deliver.proofs.AmFlow.Carrying.{rest}
use Rattle.law_given.specs.BearerRecords.{IsRightEventOn, IsRightOn, bearer_before, bearer_first, bearer_over}
use Rattle.law_given.specs.Beside.{AreGivenBy}
use Rattle.law_given.specs.OneBearer.{bearer_happens, bearer_submits, changed_if, one_given}
use Rattle.law_given.proofs.BearerRecordsFlows.{account_behind, flows_say_on_one_bearer, says_there}
use Rattle.law_given.proofs.BearerRecordsHistories.{one_bearer_by_histories}
use Rattle.law_given.proofs.GivenRecords.{left_none, one_behind}
use Rattle.law_given.proofs.JoinedSteps.{lives_more, moved_told}
use Rattle.law_given.proofs.Submissions.{all_submitted, lives_ended_before}
use Rattle.law_given.proofs.Tied.{AreTied, ties_go_on}
use Rattle.law_run.specs.Order.{IsRight, KeepsOrder}
use Rattle.law_run.specs.TwoEnds.Along.{AreAlong}
use Rattle.law_run.specs.TwoEnds.Logs.{no_flight}
use Rattle.law_run.proofs.Flowing.{looped_then}
use Rattle.law_run.proofs.TwoEnds.Going.{living_more}
use Rattle.law_sound.specs.AgreeLaws.{AgreeOn, AnswersAlike, AnswerAlike}
use Rattle.law_sound.specs.BesideLaws.{behind_all}
use Rattle.law_sound.specs.ComingLaws.{TellsFlows}
use Rattle.law_sound.specs.LivedFails.{HaveComeNew}
use Rattle.law_sound.specs.StepReading.{read_as}
use Rattle.law_sound.proofs.AgreeJournals.{journals_agree}
use Rattle.law_sound.proofs.Agreeing.{Agrees}
use Rattle.law_sound.proofs.Delivering.{bearer_is}
use Rattle.law_sound.proofs.GatheredFails.{moves_fail}
use Rattle.law_sound.proofs.GivenBetween.{GroupSaid, GoesBehind}
use Rattle.law_sound.proofs.GivenLater.{submitted_to, IsBegun, all_begun_on}
use Rattle.law_sound.proofs.GivenLives.{agrees_then, given_moves}
use Rattle.law_sound.proofs.GoneRecords.{gone_left}
use Rattle.law_sound.proofs.GroupAgreeing.{agrees_behind}
use Rattle.law_sound.proofs.GroupReading.{MovesCarrying, moved_keys, reads_gone, moves}
use Rattle.law_sound.proofs.Groups.{gathered, tells_before}
use Rattle.law_sound.proofs.MovingFails.{lives_come_new}
use Rattle.law_sound.proofs.Records.{account_both}
use Rattle.law_sound.proofs.StepRecords.{records_read}
use Rattle.law_sound.proofs.Still.{IsGoneEvent, IsGone, AreGone, gone_still, still_entries}
use Rattle.law_words.specs.Arrivals.{Account, AccountEntry, Renews, no_account, account, renewed}

-- ---- the records: each is right, and of a bearer only SDUs that the loop submits are gathered

gone_event : (l : ℕ) (side : Side) (e : Event) (b : Option (Bearer History)) → IsGoneEvent e
    → bearer_happens histories l side e b ≡ b
gone_event l side (events.Take lcid count len) b gone = absurd gone
gone_event l side (events.Report lcid fms bitmap) b gone = absurd gone
gone_event l side (events.Discard lcid len) b gone = absurd gone
gone_event l side e b gone = refl

gone_event_right : (l : ℕ) (side : Side) (e : Event) (b : Option (Bearer History)) → IsGoneEvent e
    → IsRightEventOn l side e b
gone_event_right l side (events.Take lcid count len) b gone = absurd gone
gone_event_right l side (events.Report lcid fms bitmap) b gone = absurd gone
gone_event_right l side (events.Discard lcid len) b gone = absurd gone
gone_event_right l side e b gone = tt

gone_right : (l : ℕ) (one : Record) (b : Option (Bearer History)) → IsGone one → IsRightOn l one b
gone_right l (records.Of side e) b gone = gone_event_right l side e b gone
gone_right l one b gone = tt

module _ (l : ℕ) (low : l ≤ 10) (newer : List Group) (now : Group) (past : List Group)
    (none : submitted_by now.line ≡ None) where
  abbrev Gathers : List Record → Type 0
  Gathers xs = (told : List Record) (b : Bearer History) → bearer_first l now past told ≡ Some b
      → bearer_first l now past (told ++ xs) ≡ Some (submitted_to (loops_in l xs) b)

  gathers_more : (told : List Record) (one : Record) (xs : List Record) (b : Bearer History)
      → bearer_first l now past ((told ++ one ∷ []) ++ xs) ≡ Some b
      → bearer_first l now past (told ++ one ∷ xs) ≡ Some b
  gathers_more told one xs b is = ap (bearer_first l now past) (sym (append_assoc told (one ∷ []) xs)) ∙ is

  looped_here : (lcid : ℕ) (octets : List ℕ) (xs : List Record) → Gathers xs → (told : List Record)
      (b : Bearer History) → bearer_first l now past told ≡ Some b → (here : Bool) → (lcid == l) ≡ here
      → bearer_first l now past (told ++ records.Looped lcid octets ∷ xs)
      ≡ Some (submitted_to (map sdu_of (if here then records.Looped lcid octets ∷ filter (is_looped l) xs
      else filter (is_looped l) xs)) b)
  looped_here lcid octets xs more told b is here same =
      gathers_more told (records.Looped lcid octets) xs _ (by here same)
    where
      by : (here : Bool) → (lcid == l) ≡ here
          → bearer_first l now past ((told ++ records.Looped lcid octets ∷ []) ++ xs)
          ≡ Some (submitted_to (map sdu_of (if here then records.Looped lcid octets ∷ filter (is_looped l) xs
          else filter (is_looped l) xs)) b)
      by true same =
          more (told ++ records.Looped lcid octets ∷ []) (submitted_to (octets ∷ []) b)
          (one_behind l low newer now past none told (records.Looped lcid octets) (Some b) is
          ∙ ap (λ (x : Bool). changed_if x Ue (all_submitted (octets ∷ [])) (Some b)) same)
      by false same =
          more (told ++ records.Looped lcid octets ∷ []) b
          (one_behind l low newer now past none told (records.Looped lcid octets) (Some b) is
          ∙ ap (λ (x : Bool). changed_if x Ue (all_submitted (octets ∷ [])) (Some b)) same)

  gone_gathers : (xs : List Record) → AreGone xs → Gathers xs
  gone_gathers [] gone told b is = ap (bearer_first l now past) (append-nil told) ∙ is
  gone_gathers (records.Of side e ∷ xs) gone told b is =
      gathers_more told (records.Of side e) xs _
      (gone_gathers xs gone.1 (told ++ records.Of side e ∷ []) b
      (one_behind l low newer now past none told (records.Of side e) (Some b) is
      ∙ gone_event l side e (Some b) gone.0))
  gone_gathers (records.Looped lcid octets ∷ xs) gone told b is =
      looped_here lcid octets xs (gone_gathers xs gone.1) told b is (lcid == l) refl
  gone_gathers (records.Block way process fresh version octets ∷ xs) gone told b is = absurd gone.0
  gone_gathers (records.Air way what heard ∷ xs) gone told b is = absurd gone.0
  gone_gathers (one ∷ xs) gone told b is =
      gathers_more told one xs _
      (gone_gathers xs gone.1 (told ++ one ∷ []) b (one_behind l low newer now past none told one (Some b) is))

-- and no timer expires
gone_alike : (l : ℕ) (may_take : MayTake) (past : List Group) (before told : List Record) → AreGone told
    → AnswerAlike l may_take past before (read_as false told)
gone_alike l may_take past before [] gone = tt
gone_alike l may_take past before (one ∷ told) gone =
    (by one gone.0, gone_alike l may_take past (one ∷ before) told gone.1)
  where
    event : (side : Side) (more : Bool) (e : Event) → IsGoneEvent e → AnswersAlike l more false (records.Of side e)
    event side more (events.Expired lcid clock) h = absurd h
    event side more e h = tt

    by : (one : Record) → IsGone one → AnswersAlike l (may_take past before one) false one
    by (records.Of side e) h = event side (may_take past before (records.Of side e)) e h
    by one h = tt

-- ---- a handover

module _ (newer : List Group) (c : BearerConfig) (l : ℕ) (past : List Group) (g : Group) (user rrc integrity : Key)
    (right : IsRight past (record g { line = lines.Handover user rrc integrity })) (order : KeepsOrder past)
    (tells : TellsFlows (record g { line = lines.Handover user rrc integrity } ∷ past)) (am : c.kind ≡ bearers.Am)
    (h : GoesBehind (newer ++ record g { line = lines.Handover user rrc integrity } ∷ past) c l past) where
  abbrev now : Group
  now = record g { line = lines.Handover user rrc integrity }

  abbrev whole : List Group
  whole = newer ++ now ∷ past

  abbrev may' : MayTake
  may' = may_take_by histories whole

  low : l ≤ 10
  low = h.read.low

  m : MovesCarrying may' c l past g user rrc integrity h.read
  m = moves may' c l past g user rrc integrity right order h.read

  abbrev keys : Keys
  keys = moved_keys user rrc integrity past

  abbrev o : Air
  o = outset h.given.nb h.given.ue

  abbrev left : List AirStep
  left = h.given.steps ++ Moves keys ∷ []

  abbrev steps : List AirStep
  steps = left ++ m.moved.by.steps

  -- ---- what the ends do

  there : lives_on h.read.air (Moves keys) ≡ lives left o
  there =
      ap (λ (a : Air). lives_on a (Moves keys)) h.given.there
      ∙ sym (lives_more h.given.steps (Moves keys ∷ []) o)

  left_living : AreLiving l o left
  left_living = living_more l o h.given.steps (Moves keys ∷ []) h.given.living (tt, tt)

  living : AreLiving l o steps
  living =
      living_more l o left m.moved.by.steps left_living
      (subst (λ (a : Air). AreLiving l a m.moved.by.steps) there m.moved.by.living)

  air_is : m.behind.air ≡ lives steps o
  air_is = m.air_is ∙ ap (lives m.moved.by.steps) there ∙ sym (lives_more left m.moved.by.steps o)

  new : HaveComeNew l (lives left o)
  new = subst (HaveComeNew l) there (lives_come_new l (Moves keys ∷ []) h.read.air h.read.read.new (tt, tt))

  gone_behind : AreGone m.moved.behind
  gone_behind = rest IsGone m.moved.leaving m.moved.behind (subst AreGone m.are m.gone)

  -- ---- what is read of the records

  abbrev es : Side → List LifeEvent
  es from = h.read.journal.flows.acked from l

  agrees : (from : Side) → Agrees (told_from c l from h.given.steps o) (es from)
  agrees from =
      subst (λ (a : Account). Agrees a (es from)) (sym (h.given.account_is from))
      (subst (Agrees (account_of c l from past)) (h.given.agree.same from)
      (agrees_behind may' from l c past low (tells_before now past tells) h.read.is am))

  agree : AgreeOn l (behind flows no_events may' (now ∷ past)) m.behind.journal
  agree =
      let ks = kinds (now ∷ past) in
      let i = gathered may' past in
      let j = h.read.journal in
      subst (AgreeOn l (behind flows no_events may' (now ∷ past))) (sym m.journal_is)
      ((journals_agree l (behind_records flows may' past ks [] g.events i) (behind_all ks (read_as false g.events) j)
      (subst (λ (zs : List Record). AgreeOn l (behind_records flows may' past ks [] zs i)
      (behind_all ks (read_as false g.events) j)) (records_read false g.events)
      ((journals_agree l i j h.given.agree).all ks may' past [] (read_as false g.events)
      (gone_alike l may' past [] g.events m.gone)))).ends true)

  ends_so : (from : Side) → flows_told may' (now ∷ past) from l ≡ LifeEnded ∷ es from
  ends_so from =
      agree.same from
      ∙ ap (λ (j : Journal Histories). j.flows.acked from l) m.journal_is
      ∙ ap (λ (zs : List LifeEvent). LifeEnded ∷ zs)
      ((gone_left (kinds (now ∷ past)) l (read_as false g.events) h.read.journal
      (reads_gone (read_as false g.events) (subst AreGone (sym (records_read false g.events)) m.gone))).flow from)

  abbrev own : Side → Option FlowLives
  own from = account_by (bearer_on l (now ∷ past)) (flows_told may' (now ∷ past) from l)

  says : (from : Side) → SaysSo c.first (LifeEnded ∷ es from) (own from)
  says from =
      let kept = account_at from l (one_given histories l may' (now ∷ past)).kept.journal.flows in
      subst (SaysSo c.first (LifeEnded ∷ es from)) (account_behind l low may' (now ∷ past) from)
      (subst (λ (zs : List LifeEvent). SaysSo c.first zs kept) (ends_so from)
      (says_there (bearer_on l (now ∷ past)) c (flows_told may' (now ∷ past) from l) kept
      (bearer_is l (now ∷ past) ∙ m.behind.is) (ap is_acked_kind am)
      (flows_say_on_one_bearer l newer now past from low).last))

  -- ---- what is gathered, in the next life

  left_tied : AreTied l c h.given.nb h.given.ue left
  left_tied = (ties_go_on l c h.given.nb h.given.ue h.given.steps (Moves keys) tt h.given.tied).next

  abbrev ended : Bearer History
  ended = lives_ended histories (own Nb) (own Ue) h.given.bearer

  abbrev told_left : Side → Account
  told_left from = told_from c l from left o

  begun : IsBegun l low newer now past refl c h.given.keys h.given.nb h.given.ue h.given.begins es left told_left ended
  begun = record {
    tied = left_tied;
    account_is = λ from. refl;
    agrees = λ from. agrees_then l c h.given.keys h.given.nb h.given.ue h.given.steps keys h.given.begins left_living
        from (es from) (agrees from);
    given = given_moves l c h.given.keys h.given.nb h.given.ue h.given.steps keys h.given.begins left_living
        h.given.tied left_tied (es Nb) (es Ue) (agrees Nb) (agrees Ue) (own Nb) (own Ue) (says Nb) (says Ue)
        h.given.bearer (subst (λ (up : List FlowEvent). AreGivenBy c h.given.tied.joined.there h.given.tied.joined.back
        h.given.tied.joined.one h.given.tied.joined.two (running (es Nb)) up h.given.bearer.nb h.given.bearer.ue)
        (sym h.read.read.gathered.up_is)
        (subst (λ (down : List FlowEvent). AreGivenBy c h.given.tied.joined.there h.given.tied.joined.back
        h.given.tied.joined.one h.given.tied.joined.two down h.read.moment.up h.given.bearer.nb h.given.bearer.ue)
        (sym h.read.read.gathered.down_is) h.given.given));
  }

  later : IsBegun l low newer now past refl c h.given.keys h.given.nb h.given.ue h.given.begins es steps told_left
      (submitted_to (loops_in l m.moved.behind) ended)
  later =
      all_begun_on l low newer now past refl c h.given.keys h.given.nb h.given.ue h.given.begins es left
      m.moved.by.steps told_left ended no_flight m.moved.behind m.moved.in_life living new
      (subst (λ (a : Air). AreAlong no_flight m.moved.by.steps a m.moved.behind) there (m.moved.along no_flight))
      gone_behind begun

  -- ---- what is gathered, before the last one ends

  loops_same : loops_in l m.moved.behind ≡ loops_in l g.events
  loops_same =
      sym (ap (loops_in l) m.are ∙ looped_then Ue l m.moved.leaving m.moved.behind
      ∙ ap (λ (zs : List (List ℕ)). zs ++ loops_in l m.moved.behind) (m.moved.none_looped Ue l))

  abbrev bearer : Bearer History
  bearer = lives_ended histories (own Nb) (own Ue) (submitted_to (loops_in l g.events) h.given.bearer)

  pub bearer_so : bearer_at l (all_given histories (now ∷ past)).bearers ≡ Some bearer
  bearer_so =
      let by = one_bearer_by_histories l newer now past low in
      by.ends
      ∙ ap (λ (b : Option (Bearer History)). bearer_over true (own Nb) (own Ue) b)
      (ap (λ s. bearer_submits histories l s (bearer_first l now past g.events)) (left_none l low newer now past refl
      g.events)
      ∙ gone_gathers l low newer now past refl g.events m.gone [] h.given.bearer (by.begins ∙ h.given.is))

  none_run : (from : Side) → [] ≡ running (m.behind.journal.flows.acked from l)
  none_run from = sym (ap (λ (j : Journal Histories). running (j.flows.acked from l)) m.journal_is)

  down_is : [] ≡ m.behind.moment.down
  down_is = none_run Nb ∙ m.behind.read.gathered.down_is

  up_is : [] ≡ m.behind.moment.up
  up_is = none_run Ue ∙ m.behind.read.gathered.up_is

  given : AreGivenBy c later.tied.joined.there later.tied.joined.back later.tied.joined.one later.tied.joined.two
      m.behind.moment.down m.behind.moment.up bearer.nb bearer.ue
  given =
      subst (λ (down : List FlowEvent). AreGivenBy c later.tied.joined.there later.tied.joined.back
      later.tied.joined.one later.tied.joined.two down m.behind.moment.up bearer.nb bearer.ue) down_is
      (subst (λ (up : List FlowEvent). AreGivenBy c later.tied.joined.there later.tied.joined.back
      later.tied.joined.one later.tied.joined.two [] up bearer.nb bearer.ue) up_is
      (lives_ended_before c later.tied.joined.there later.tied.joined.back later.tied.joined.one later.tied.joined.two
      [] [] (own Nb) (own Ue) (loops_in l g.events) h.given.bearer
      (subst (λ (sdus : List (List ℕ)). (let a = submitted_to sdus ended in
      AreGivenBy c later.tied.joined.there later.tied.joined.back later.tied.joined.one later.tied.joined.two [] [] a.nb
      a.ue)) loops_same later.given)))

  account_so : (from : Side) → told_from c l from steps o ≡ account_of c l from (now ∷ past)
  account_so from =
      let bits = c.pdcp_bits in
      let before = entries_from bits l from past in
      later.account_is from
      ∙ moved_told c l from h.given.steps keys o
      ∙ ap (λ (a : Account). renewed a) (h.given.account_is from)
      ∙ ap (λ (zs : List AccountEntry). account (Renews ∷ zs) (account before no_account))
      (sym (still_entries bits l from g.events [] (gone_still g.events m.gone)))
      ∙ sym (account_both before (Renews ∷ entries_in bits l from [] g.events) no_account)

  said : GroupSaid whole l (now ∷ past)
  said told one rest' parts =
      let all_gone : AreGone (told ++ one ∷ rest') = subst AreGone parts m.gone in
      gone_right l one (bearer_before l now past told one) (rest IsGone told (one ∷ rest') all_gone).0

  goes : GoesBehind whole c l (now ∷ past)
  goes = record {
    read = m.behind;
    given = record {
      keys = h.given.keys;
      nb = h.given.nb;
      ue = h.given.ue;
      begins = h.given.begins;
      steps = steps;
      living = living;
      there = air_is;
      tied = later.tied;
      account_is = account_so;
      bearer = bearer;
      is = bearer_so;
      given = given;
      agree = agree;
    };
    said = said;
    fails = moves_fail may' c l past g user rrc integrity h.read m h.given.agree agree;
  }

pub moves_given : (all newer : List Group) (c : BearerConfig) (l : ℕ) (past : List Group) (g : Group)
    (user rrc integrity : Key) → all ≡ newer ++ record g { line = lines.Handover user rrc integrity } ∷ past
    → IsRight past (record g { line = lines.Handover user rrc integrity }) → KeepsOrder past
    → TellsFlows (record g { line = lines.Handover user rrc integrity } ∷ past) → c.kind ≡ bearers.Am
    → GoesBehind all c l past → GoesBehind all c l (record g { line = lines.Handover user rrc integrity } ∷ past)
moves_given all newer c l past g user rrc integrity is right order tells am =
    subst (λ (x : List Group). GoesBehind x c l past
    → GoesBehind x c l (record g { line = lines.Handover user rrc integrity } ∷ past)) (sym is)
    (goes newer c l past g user rrc integrity right order tells am)

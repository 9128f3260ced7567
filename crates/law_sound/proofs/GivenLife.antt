-- A step of a life, with its records: what is gathered of what PDCP gives RLC of acknowledged data goes on over it,
-- each
-- record is right by it, and whether an SDU may be taken is answered alike.
use Rattle.std.proofs.Common.{◌≡◌, ◌≤◌, ℕ, false, List, [], ◌∷◌, ◌++◌, Option, Some, None}
use Rattle.std.proofs.Common.{slice_get, append-nil, append_assoc, refl, ap, sym, subst, ◌∙◌, ◌⊎◌, inl, inr, reverse}
use Rattle.std.specs.List.{AllByRecursion}
use Rattle.std.proofs.lemmas.List.{reverse-append}
use Rattle.air_record.specs.declared.record.Record.{Record}
use Rattle.air_record.specs.Submissions.{submitted_by}
use Rattle.air_text.specs.Groups.{Group}
use Rattle.bearer.specs.declared.flow.Flow.TheVariants.{Am}
use Rattle.bearer_types.specs.Sides.{other}
use Rattle.bearer_types.specs.declared.config.BearerConfig.{BearerConfig}
use Rattle.eps_sec.specs.declared.Keys.{Keys}
use Rattle.l2_node.specs.End.{End}
use Rattle.l2_types.specs.declared.channel.Kind.TheVariants as bearers
use Rattle.l2_types.specs.declared.side.Side.{Side}
use Rattle.l2_types.specs.declared.side.Side.TheVariants.{Nb, Ue}
use Rattle.pdcp_pdu.specs.declared.pdu.PdcpKind.TheVariants as pdcp
use Rattle.pdu_show.specs.declared.kinds.Layout.{Layout}
use Rattle.promises.specs.Arrival.{account_of, entries_in}
use Rattle.promises.specs.Blocks.{kinds}
use Rattle.promises.specs.Configs.{config_of}
use Rattle.promises.specs.Events.{told_on}
use Rattle.promises.specs.Flows.{looped_at, loops_in}
use Rattle.promises.specs.Parts.{is_handover}
use Rattle.promises.specs.Records.{events_of}
use Rattle.journal_flows.specs.FlowsTold.{Histories}
use Rattle.journal_flows.specs.Gathering.{Journal, MayTake}
use Rattle.journal_given.specs.Giving.{side_of, may_take_by}
use Rattle.journal_given.specs.Supplies.{histories as supplies}
use Rattle.journal_lives.specs.LifeEvents.{running}
use Rattle.law_bearer.specs.AmBearer.Calls.{tells}
use Rattle.law_bearer.specs.AnyBearer.Calls.{Call as BearerCall, Submit as Submits, Take as Takes, Arrive as Arrives}
use Rattle.law_bearer.specs.AnyBearer.Calls.{Expire as Expires, Tick as Ticks, SetDiscard as SetsDiscard}
use Rattle.law_deliver.specs.AmChannel.Arrival.{told_from}
use Rattle.law_deliver.specs.AmChannel.Delivery.{AmEndsBeginAlike, was_submitted}
use Rattle.law_deliver.specs.AmChannel.Lives.{AirStep, InLife, AreLiving, lives, end_at, calls_at}
use Rattle.law_deliver.specs.AmFlow.Air.{Block, Air, Comes, Step, outset, IsGiven}
use Rattle.law_deliver.specs.AmFlow.Ups.{tells_over}
use Rattle.law_given.specs.BearerRecords.{IsRightOn, bearer_before}
use Rattle.law_given.specs.Beside.{progress}
use Rattle.law_given.specs.Confirming.{AreSizesTold}
use Rattle.law_given.specs.Joined.{rlc}
use Rattle.law_given.specs.Supplied.{IsSupplied}
use Rattle.law_given.specs.SupplyLaws.{IsOwn}
use Rattle.law_given.proofs.GivenRecords.{AllRight, BringsNoBlock, journal_at}
use Rattle.law_given.proofs.JoinedSteps.{lives_more}
use Rattle.law_given.proofs.PollFirst.{NoneExpires}
use Rattle.law_given.proofs.Tied.{TiesGoOn, ties_go_on, calls_of_step}
use Rattle.law_given.proofs.TiedEnds.{ties_side}
use Rattle.law_run.specs.TwoEnds.Along.{at_side}
use Rattle.law_run.specs.TwoEnds.Logs.{Flight, last_in, logged, log_at}
use Rattle.law_run.proofs.BearerWalk.{adds_one}
use Rattle.law_words.specs.Arrivals.{Account, account}
use Rattle.law_sound.specs.AgreeLaws.{AgreeOn, AnswersAlike, AnswerAlike}
use Rattle.law_sound.specs.BesideLaws.{ReadRecord, behind_all, station_of}
use Rattle.law_sound.specs.ComingLaws.{TellsFlows}
use Rattle.law_sound.specs.LivedHistories.{AreLived, Moment}
use Rattle.law_sound.specs.LoggedRecords.{records_of}
use Rattle.law_sound.specs.StepReading.{IsAnswered, IsRead, IsFlightOf, AreReadTo}
use Rattle.law_sound.proofs.Agreeing.{Agrees}
use Rattle.law_sound.proofs.GivenActs.{IsGatheredOn}
use Rattle.law_sound.proofs.GivenAnswers.{call_answers, none_answer, none_expire, unexpired_answer, step_answered}
use Rattle.law_sound.proofs.GivenAnswers.{agree_more}
use Rattle.law_sound.proofs.GivenBeside.{of_both}
use Rattle.law_sound.proofs.GivenCalls.{submits_all, one_tells}
use Rattle.law_sound.proofs.GivenComing.{block_read}
use Rattle.law_sound.proofs.GivenHow.{HowItGoes, Few, Brought, how_it_goes, brought_unexpired}
use Rattle.law_sound.proofs.GivenMoments.{IsGivenAt, way, bearer, history, sizes_told}
use Rattle.law_sound.proofs.GivenStepFacts.{account_goes}
use Rattle.law_sound.proofs.GivenSteps.{tells_are, loops_are, few_called}
use Rattle.law_sound.proofs.GivenWays.{was_at, lcid_at}
use Rattle.law_sound.proofs.GroupAgreeing.{agrees_within}
use Rattle.law_sound.proofs.LivedFails.{AreThere, lived_there}
use Rattle.law_sound.proofs.LoggedEvents.{HearsNone, none_comes_in}
use Rattle.law_sound.proofs.StepCarrying.{AllSaid}

-- ---- what is said of each record, where it is right and answers alike

module _ (l : ℕ) (low : l ≤ 10) (newer : List Group) (now : Group) (past : List Group)
    (none : submitted_by now.line ≡ None) where
  abbrev may : MayTake
  may = may_take_by supplies (newer ++ now ∷ past)

  pub record IsSaid (told : List Record) (x : ReadRecord) : Type 0 where
    pub right : IsRightOn l x.one (bearer_before l now past told x.one)
    pub alike : AnswersAlike l (may past (reverse told) x.one) x.more x.one

  pub all_said : (told : List Record) (xs : List ReadRecord) → AllRight l low newer now past none told (records_of xs)
      → AnswerAlike l may past (reverse told) xs → AllSaid IsSaid told xs
  all_said told [] right alike = tt
  all_said told (x ∷ xs) right alike = (
    record { right = right.0; alike = alike.0 },
    all_said (told ++ x.one ∷ []) xs right.1
        (subst (λ (before : List Record). AnswerAlike l may past before xs) (sym (reverse-append told (x.one ∷ [])))
        alike.1),
  )

  -- ---- one step

  module _ (c : BearerConfig) (keys : Keys) (nb ue : End) (begins : AmEndsBeginAlike l c keys nb ue)
      (flows_told : TellsFlows (now ∷ past)) (config : config_of l (now ∷ past) ≡ Some c) (data' : c.kind ≡ bearers.Am)
      (stays : is_handover now.line ≡ false) (no_bearer : adds_one l now.line ≡ false) where
    abbrev pub ks : List (Option Layout)
    ks = kinds (now ∷ past)

    abbrev Reading : Air → Moment → Journal Histories → Type 0
    Reading a m j = IsRead (pdcp.Am c.pdcp_bits) l a m j

    module _ (steps : List AirStep) (s : Step) (m : Moment) (j : Journal Histories) (told xs rest others : List Record)
        (sent : Flight) (living : AreLiving l (outset nb ue) (steps ++ InLife s ∷ []))
        (given : IsGiven l (lives steps (outset nb ue)) s) (events_are : now.events ≡ told ++ (xs ++ rest))
        (logs : logged sent xs ≡ log_at (lives steps (outset nb ue)) (InLife s))
        (looped : (side : Side) (k : ℕ) → looped_at side k xs
        ≡ was_submitted k (calls_at side (lives steps (outset nb ue)) (InLife s))
        (end_at side (lives steps (outset nb ue))))
        (flight : IsFlightOf j sent) (octets : sent.octets ≡ last_in told [])
        (r : Reading (lives steps (outset nb ue)) m j)
        (x : AreReadTo ks (pdcp.Am c.pdcp_bits) l (lives steps (outset nb ue)) (InLife s ∷ []) m j xs others)
        (w : IsGivenAt l c nb ue low newer now past none told steps m j) where
      abbrev air : Air
      air = lives steps (outset nb ue)

      abbrev on : List AirStep
      on = steps ++ InLife s ∷ []

      abbrev now_read : Journal Histories
      now_read = behind_all ks x.reads j

      n : TiesGoOn l c nb ue steps (InLife s) w.tied
      n = ties_go_on l c nb ue steps (InLife s) given w.tied

      there : AreThere l air
      there = lived_there l air m r.lived

      lived_on : AreLived l (lives on (outset nb ue)) x.last.pdus x.last.down x.last.up
      lived_on =
          subst (λ (a : Air). AreLived l a x.last.pdus x.last.down x.last.up) (sym (lives_more steps (InLife s ∷ [])
          (outset nb ue))) x.read.lived

      accounts : (from : Side) → told_from c l from on (outset nb ue)
          ≡ account (entries_in c.pdcp_bits l from [] (told ++ xs)) (account_of c l from past)
      accounts from =
          account_goes l c keys nb ue begins steps s w.tied n.next living given r.new there sent xs logs from told
          (account_of c l from past) (ties_side l c nb ue steps w.tied).0 (ties_side l c nb ue steps w.tied).1 octets
          (w.account_is from)

      agrees : (first more : List Record) → xs ≡ first ++ more → (from : Side)
          → Agrees (account (entries_in c.pdcp_bits l from [] (told ++ first)) (account_of c l from past))
          ((journal_at l low newer now past none (told ++ first)).flows.acked from l)
      agrees first more parts from =
          agrees_within may from l c now past (told ++ first) (more ++ rest) low flows_told config data' stays no_bearer
          (events_are
          ∙ ap (λ (zs : List Record). told ++ (zs ++ rest)) parts
          ∙ ap (λ (zs : List Record). told ++ zs) (append_assoc first more rest)
          ∙ sym (append_assoc told first (more ++ rest)))

      tells_so : (side : Side) → told_on l (events_of side xs)
          ≡ tells_over l (Am (bearer l c nb ue steps w.tied side)) (calls_of_step l side air (InLife s))
      tells_so side =
          tells_are l low newer now past none c keys nb ue begins steps s w.tied n living given r.new there sent told
          xs logs
          looped side

      loops_so : (side : Side) → looped_at side l xs ≡ submits_all (calls_of_step l side air (InLife s))
      loops_so side =
          loops_are l low newer now past none c keys nb ue begins steps s w.tied n living given r.new there sent told
          xs logs
          looped side

      -- ---- answers

      answered : AllByRecursion (IsAnswered l air) x.reads
      answered = step_answered l air (InLife s) x.reads x.each

      supplied_at : (side : Side)
          → IsSupplied (progress (way l c nb ue steps w.tied side) (history side m))
          (bearer l c nb ue steps w.tied side).pdcp.tx (side_of side w.gathered)
      supplied_at Nb = w.given.own_is.supplied
      supplied_at Ue = w.given.far_is.supplied

      -- the events of the records read are those of the records
      read_tells : (side : Side) → told_on l (events_of side (records_of x.reads)) ≡ told_on l (events_of side xs)
      read_tells side = ap (λ (zs : List Record). told_on l (events_of side zs)) x.are

      none_answers : ((side : Side) → calls_of_step l side air (InLife s) ≡ [])
          → AnswerAlike l may past (reverse told) x.reads
      none_answers quiet =
          none_answer l may past (reverse told) x.reads
          (λ side. read_tells side ∙ tells_so side
          ∙ ap (tells_over l (Am (bearer l c nb ue steps w.tied side))) (quiet side))

      blocks_none : AllByRecursion HearsNone (log_at air (InLife s)) → AllByRecursion BringsNoBlock xs
      blocks_none hears = none_comes_in sent xs (subst (AllByRecursion HearsNone) (sym logs) hears)

      one_answers : (side : Side) (call : BearerCall) → IsOwn call → calls_of_step l side air (InLife s) ≡ call ∷ []
          → calls_of_step l (other side) air (InLife s) ≡ [] → AllByRecursion HearsNone (log_at air (InLife s))
          → AnswerAlike l may past (reverse told) x.reads
      one_answers side call own one far hears =
          call_answers l low newer now past none side call air told x.reads w.gathered
          (bearer l c nb ue steps w.tied side) (progress (way l c nb ue steps w.tied side) (history side m)) own
          (was_at l c nb ue steps w.tied side) (supplied_at side) w.is
          (read_tells side ∙ tells_so side
          ∙ ap (tells_over l (Am (bearer l c nb ue steps w.tied side))) one
          ∙ one_tells l (bearer l c nb ue steps w.tied side) call (lcid_at l c nb ue steps w.tied side))
          (read_tells (other side) ∙ tells_so (other side)
          ∙ ap (tells_over l (Am (bearer l c nb ue steps w.tied (other side)))) far)
          (loops call side (loops_so side ∙ ap submits_all one) (loops_so (other side) ∙ ap submits_all far))
          (subst (AllByRecursion BringsNoBlock) (sym x.are) (blocks_none hears)) answered
        where
          at_ue : (side : Side) → looped_at side l xs ≡ [] → looped_at (other side) l xs ≡ []
              → loops_in l (records_of x.reads) ≡ []
          at_ue Nb p q = ap (loops_in l) x.are ∙ q
          at_ue Ue p q = ap (loops_in l) x.are ∙ p

          loops : (call : BearerCall) (side : Side) → looped_at side l xs ≡ submits_all (call ∷ [])
              → looped_at (other side) l xs ≡ []
              → (tells (bearer l c nb ue steps w.tied side) call ≡ []) ⊎ (loops_in l (records_of x.reads) ≡ [])
          loops (Submits sdu) side p q = inl refl
          loops (Takes share held) side p q = inr (at_ue side p q)
          loops (Arrives pdu) side p q = inr (at_ue side p q)
          loops (Expires clock) side p q = inr (at_ue side p q)
          loops Ticks side p q = inr (at_ue side p q)
          loops (SetsDiscard ttis) side p q = inr (at_ue side p q)

      brought_answers : (from : Side) (k : ℕ) (block : Block) → s ≡ at_side (other from) (Comes k)
          → slice_get (station_of from air).blocks k ≡ Some block → AnswerAlike l may past (reverse told) x.reads
      brought_answers from k block is at =
          unexpired_answer l may past (reverse told) x.reads
          (none_expire l (records_of x.reads) (λ side. subst NoneExpires (sym (read_tells side))
          (brought_unexpired l air s from k block is at (bearer l c nb ue steps w.tied) (events_of side xs) side
          (tells_so side))))

      answers_by : HowItGoes l air s → AnswerAlike l may past (reverse told) x.reads
      answers_by (Few side (inl quiet) far hears) =
          none_answers (of_both side (λ (z : Side). calls_of_step l z air (InLife s) ≡ []) quiet far)
      answers_by (Few side (inr one) far hears) = one_answers side one.0 one.1.1 one.1.0 far hears
      answers_by (Brought from k block is at) = brought_answers from k block is at

      answers : AnswerAlike l may past (reverse told) x.reads
      answers = answers_by (how_it_goes l air s given)

      -- ---- so what is gathered agrees, and goes on

      agree_on : AgreeOn l (journal_at l low newer now past none (told ++ xs)) now_read
      agree_on =
          subst (λ (zs : List Record). AgreeOn l (journal_at l low newer now past none (told ++ zs)) now_read) x.are
          (agree_more l low newer now past none told x.reads j w.agree answers)

      agrees_read : (from : Side) → Agrees (told_from c l from on (outset nb ue)) (now_read.flows.acked from l)
      agrees_read from =
          subst (λ (a : Account). Agrees a (now_read.flows.acked from l)) (sym (accounts from))
          (subst (Agrees (account (entries_in c.pdcp_bits l from [] (told ++ xs)) (account_of c l from past)))
          (agree_on.same from) (agrees xs [] (sym (append-nil xs)) from))

      runs_so : (from : Side) → running (now_read.flows.acked from l) ≡ history from x.last
      runs_so Nb = x.read.gathered.down_is
      runs_so Ue = x.read.gathered.up_is

      sizes : (from : Side) → AreSizesTold (rlc (way l c nb ue on n.next from)) (history from x.last)
      sizes from =
          subst (AreSizesTold (rlc (way l c nb ue on n.next from))) (runs_so from)
          (sizes_told l c nb ue on n.next from (now_read.flows.acked from l) (agrees_read from))

      gathers_by : HowItGoes l air s → IsGatheredOn l low newer now past none c nb ue told xs on n.next x.last
      gathers_by (Few side few far hears) =
          few_called l low newer now past none c keys nb ue begins steps s w.tied n living given r.new there sent
          told xs logs
          looped m x.last r.lived lived_on sizes w.gathered w.is w.given (blocks_none hears) side few far
      gathers_by (Brought from k block is at) =
          block_read l low newer now past none c keys nb ue begins steps s w.tied n living given r.new there sent
          told xs logs
          looped from k block is at m x.last j now_read r.lived r.gathered flight lived_on (runs_so Nb)
          (runs_so Ue) w.agree
          agree_on agrees accounts w.gathered w.is w.given

      pub life_on : IsGivenAt l c nb ue low newer now past none (told ++ xs) on x.last now_read
      life_on =
          let g = gathers_by (how_it_goes l air s given) in
          record {
            tied = n.next;
            account_is = accounts;
            gathered = g.gathered_on;
            is = g.is;
            given = g.given;
            agree = agree_on;
          }

      pub life_said : AllSaid IsSaid told x.reads
      life_said =
          all_said told x.reads
          (subst (AllRight l low newer now past none told) (sym x.are)
          (gathers_by (how_it_goes l air s given)).right) answers

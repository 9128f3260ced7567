-- A step of a life, with its records: what is kept of the flows of a channel goes on beside both ends, and each new
-- block among them is right on the channel.
use Rattle.std.proofs.Common.{◌≡◌, ◌≤◌, ℕ, true, false, List, [], ◌∷◌, ◌++◌, Some, None, append-nil, append_assoc, ap}
use Rattle.std.proofs.Common.{sym, subst, ◌∙◌}
use Rattle.std.specs.List.{AllByRecursion}
use Rattle.air_record.specs.declared.record.Record.{Record}
use Rattle.air_record.specs.declared.record.Record.TheVariants as records
use Rattle.air_record.specs.Submissions.{submitted_by}
use Rattle.air_text.specs.Groups.{Group}
use Rattle.bearer_types.specs.declared.config.BearerConfig.{BearerConfig}
use Rattle.eps_sec.specs.declared.Keys.{Keys}
use Rattle.l2_node.specs.End.{End}
use Rattle.l2_types.specs.declared.channel.Kind.TheVariants as bearers
use Rattle.l2_types.specs.declared.side.Side.{Side}
use Rattle.l2_types.specs.declared.side.Side.TheVariants.{Nb, Ue}
use Rattle.pdcp_pdu.specs.declared.pdu.PdcpKind.TheVariants as pdcp
use Rattle.promises.specs.Blocks.{kinds}
use Rattle.promises.specs.Configs.{config_of}
use Rattle.promises.specs.Flows.{looped_at}
use Rattle.promises.specs.Parts.{is_handover}
use Rattle.journal_account.specs.Acked.{is_acked}
use Rattle.journal_account.specs.FlowEvents.{FlowEvent}
use Rattle.journal_flows.specs.Accounts.{is_acked_kind}
use Rattle.journal_flows.specs.FlowsTold.{Histories}
use Rattle.journal_flows.specs.Gathering.{Journal, Sending, sending_of}
use Rattle.journal_given.specs.Supplies.{Bearer, History}
use Rattle.journal_lives.specs.LifeEvents.{running}
use Rattle.journal_sent.specs.RightSent.{IsSdu}
use Rattle.law_deliver.specs.AmChannel.Delivery.{AmEndsBeginAlike, was_submitted}
use Rattle.law_deliver.specs.AmChannel.Lives.{AirStep, InLife, AreLiving, lives, end_at, calls_at}
use Rattle.law_deliver.specs.AmFlow.Air.{Air, Calls, Step, outset, IsGiven}
use Rattle.law_deliver.proofs.AmFlow.Ups.{Stands}
use Rattle.law_given.proofs.GivenRecords.{journal_at}
use Rattle.law_given.proofs.Tied.{AreTied}
use Rattle.law_node.specs.Calls.{Visits}
use Rattle.law_node.specs.Telling.{told_of}
use Rattle.law_run.specs.TwoEnds.Logs.{Flight, last_in, logged, log_at}
use Rattle.law_run.proofs.BearerWalk.{adds_one}
use Rattle.law_sent.proofs.ChannelsNamed.{AreNamedAlike}
use Rattle.law_sound.specs.BesideLaws.{ReadRecord, behind_all, station_of}
use Rattle.law_sound.specs.ComingLaws.{TellsFlows}
use Rattle.law_sound.specs.LivedHistories.{Moment}
use Rattle.law_sound.specs.LoggedRecords.{records_of}
use Rattle.law_sound.specs.NamedSteps.{SendsNoNewBlock}
use Rattle.law_sound.specs.StepReading.{IsRead, IsFlightOf, AreReadTo}
use Rattle.law_sound.proofs.GivenLife.{life_on}
use Rattle.law_sound.proofs.GivenMoments.{IsGivenAt, bearer, follows_so, history}
use Rattle.law_sound.proofs.GivenStepFacts.{stands_at}
use Rattle.law_sound.proofs.LivedFails.{AreThere, lived_there}
use Rattle.law_sound.proofs.LoggedEvents.{IsUnbuilt, none_sent_anew}
use Rattle.law_sound.proofs.SentBetween.{AreSentBeside, IsSentOn, StandsBeside}
use Rattle.law_sound.proofs.SentBuilds.{built_on}
use Rattle.law_sound.proofs.SentJournals.{acked_behind, named_more, named_told}
use Rattle.law_sound.proofs.SentRecords.{sending_first}
use Rattle.law_sound.proofs.SentSizes.{sizes_over}
use Rattle.law_sound.proofs.SentQuiet.{GoesBy, goes_by, stays_beside}
use Rattle.law_sound.proofs.SentSteps.{BuildsNone, BuildsOne, HowItBuilds, done_act, how_it_builds}
use Rattle.law_sound.proofs.SentSubmitted.{all_sized}
use Rattle.law_sound.proofs.StepCarrying.{AllSaid}

module _ (l : ℕ) (low : l ≤ 10) (newer : List Group) (now : Group) (past : List Group)
    (none : submitted_by now.line ≡ None) where
  -- behind the first records of a group
  pub record IsSentAt (c : BearerConfig) (nb ue : End) (told : List Record) (steps : List AirStep)
      (t : AreTied l c nb ue steps) (b : Bearer History) : Type 0 where
    pub beside : AreSentBeside l c t.joined.one t.joined.two (sending_first now past told) b
    pub alike : AreNamedAlike (journal_at l low newer now past none told) (sending_first now past told)

  abbrev pub IsSentSaid : List Record → ReadRecord → Type 0
  IsSentSaid told x = IsSentOn l now past told x.one

  unsent_said : (told : List Record) (one : Record) → SendsNoNewBlock one → IsSentOn l now past told one
  unsent_said told (records.Block direction process true version octets) unsent = absurd unsent
  unsent_said told one unsent = tt

  none_said : (reads : List ReadRecord) (told : List Record) → AllByRecursion SendsNoNewBlock (records_of reads)
      → AllSaid IsSentSaid told reads
  none_said [] told unsent = tt
  none_said (x ∷ reads) told unsent =
      (unsent_said told x.one unsent.0, none_said reads (told ++ x.one ∷ []) unsent.1)

  -- one among others that send none
  one_said : (reads : List ReadRecord) (told first behind : List Record) (one : Record)
      → records_of reads ≡ first ++ one ∷ behind → AllByRecursion SendsNoNewBlock first
      → AllByRecursion SendsNoNewBlock behind → IsSentOn l now past (told ++ first) one → AllSaid IsSentSaid told reads
  one_said [] told [] behind one are first later right = absurd cc
  one_said [] told (y ∷ first) behind one are unsent later right = absurd cc
  one_said (x ∷ reads) told [] behind one are unsent later right =
      let is : x.one ≡ one = cc in
      let rest : records_of reads ≡ behind = cc in (
        subst (IsSentOn l now past told) (sym is)
            (subst (λ (zs : List Record). IsSentOn l now past zs one) (append-nil told) right),
        none_said reads (told ++ x.one ∷ []) (subst (AllByRecursion SendsNoNewBlock) (sym rest) later),
      )
  one_said (x ∷ reads) told (y ∷ first) behind one are unsent later right =
      let is : x.one ≡ y = cc in
      let rest : records_of reads ≡ first ++ one ∷ behind = cc in (
        unsent_said told x.one (subst SendsNoNewBlock (sym is) unsent.0),
        one_said reads (told ++ x.one ∷ []) first behind one rest unsent.1 later
            (subst (λ (zs : List Record). IsSentOn l now past zs one)
            (sym (append_assoc told (x.one ∷ []) first ∙ ap (λ (z : Record). told ++ z ∷ first) is)) right),
      )

  module _ (c : BearerConfig) (keys : Keys) (nb ue : End) (begins : AmEndsBeginAlike l c keys nb ue)
      (flows_told : TellsFlows (now ∷ past)) (config : config_of l (now ∷ past) ≡ Some c) (data' : c.kind ≡ bearers.Am)
      (stays : is_handover now.line ≡ false) (no_bearer : adds_one l now.line ≡ false) where
    module _ (steps : List AirStep) (s : Step) (m : Moment) (j : Journal Histories) (told xs rest others : List Record)
        (sent : Flight) (living : AreLiving l (outset nb ue) (steps ++ InLife s ∷ []))
        (given : IsGiven l (lives steps (outset nb ue)) s) (events_are : now.events ≡ told ++ (xs ++ rest))
        (logs : logged sent xs ≡ log_at (lives steps (outset nb ue)) (InLife s))
        (looped : (side : Side) (k : ℕ) → looped_at side k xs
        ≡ was_submitted k (calls_at side (lives steps (outset nb ue)) (InLife s))
        (end_at side (lives steps (outset nb ue))))
        (flight : IsFlightOf j sent) (octets : sent.octets ≡ last_in told [])
        (r : IsRead (pdcp.Am c.pdcp_bits) l (lives steps (outset nb ue)) m j)
        (x : AreReadTo (kinds (now ∷ past)) (pdcp.Am c.pdcp_bits) l (lives steps (outset nb ue)) (InLife s ∷ []) m j xs
        others)
        (w : IsGivenAt l c nb ue low newer now past none told steps m j)
        (v : IsSentAt c nb ue told steps w.tied w.gathered) where
      abbrev w' : IsGivenAt l c nb ue low newer now past none (told ++ xs) (steps ++ InLife s ∷ []) x.last
          (behind_all (kinds (now ∷ past)) x.reads j)
      w' = life_on l low newer now past none c keys nb ue begins flows_told config data' stays no_bearer steps s m j
          told xs rest others sent living given events_are logs looped flight octets r x w

      abbrev air : Air
      air = lives steps (outset nb ue)

      there : AreThere l air
      there = lived_there l air m r.lived

      by : GoesBy l c nb ue steps s w.tied w'.tied xs
      by = goes_by l c keys nb ue begins steps s w.tied w'.tied living given r.new there sent xs logs looped

      beside_at : (side : Side)
          → StandsBeside side l c.pdcp_bits (bearer l c nb ue steps w.tied side) (sending_first now past told)
      beside_at Nb = v.beside.nb
      beside_at Ue = v.beside.ue

      stands_so : (side : Side) → Stands side l (station_of side air).end
      stands_so Nb = stands_at Nb l air r.new there
      stands_so Ue = stands_at Ue l air r.new there

      -- the flows of a moment
      history_is : (side : Side)
          → running ((journal_at l low newer now past none told).flows.acked side l) ≡ history side m
      history_is Nb = ap running (w.agree.same Nb) ∙ r.gathered.down_is
      history_is Ue = ap running (w.agree.same Ue) ∙ r.gathered.up_is

      -- none is named that isn't in a block
      silent : (side : Side) → (sending_of side (journal_at l low newer now past none told)).named ≡ []
      silent Nb = ap (λ (x : Sending). x.named) w.agree.alike.nb ∙ r.named Nb
      silent Ue = ap (λ (x : Sending). x.named) w.agree.alike.ue ∙ r.named Ue

      record Goes : Type 0 where
        beside : (side : Side)
            → StandsBeside side l c.pdcp_bits (bearer l c nb ue (steps ++ InLife s ∷ []) w'.tied side)
            (sending_first now past (told ++ xs))
        said : AllSaid IsSentSaid told x.reads

      goes : HowItBuilds l air s → Goes
      goes (BuildsNone quiet unbuilt) =
          let unsent = none_sent_anew sent xs (subst (AllByRecursion IsUnbuilt) (sym logs) unbuilt) in
          record {
            beside = λ side.
                stays_beside l low newer now past none c nb ue steps s w.tied w'.tied given sent told xs logs by m
                w.gathered w.is w.given unsent quiet side (beside_at side);
            said = none_said x.reads told (subst (AllByRecursion SendsNoNewBlock) (sym x.are) unsent);
          }
      goes (BuildsOne side turn step acts build) =
          let done = done_act l air side (Calls (Visits turn)) acts in
          let follows = follows_so l c nb ue steps w.tied side m r.lived in
          let said = told_of (station_of side air).end (Visits turn) in
          let built = built_on l low newer now past none c nb ue steps s w.tied w'.tied sent told xs logs by m
          w.gathered w.is w.given v.beside.sizes side turn step done build (stands_so side) follows
          (λ before named. named_told l low newer now past none told before side sent said named (silent side) v.alike)
          (λ before one brings sends n.
          acked_behind l low newer now past none c config (ap is_acked_kind data') stays told before side one brings
          sends n
          ∙ ap (λ (es : List FlowEvent). is_acked es n) (history_is side)) beside_at in
          record {
            beside = built.beside;
            said = one_said x.reads told built.first built.behind built.one (x.are ∙ built.are) built.first_unsent
                built.behind_unsent built.right;
          }

      pub sent_on : IsSentAt c nb ue (told ++ xs) (steps ++ InLife s ∷ []) w'.tied w'.gathered
      sent_on =
          let after = goes (how_it_builds l air s given) in
          record {
            beside = record {
              nb = after.beside Nb;
              ue = after.beside Ue;
              sizes = sizes_over l low newer now past none told xs w.gathered w'.gathered w.is w'.is
                  (subst (AllByRecursion IsSdu) (sym (looped Ue l))
                  (all_sized l (calls_at Ue air (InLife s)) (end_at Ue air)))
                  v.beside.sizes;
            };
            alike = named_more l low newer now past none xs told v.alike;
          }

      pub sent_said : AllSaid IsSentSaid told x.reads
      sent_said = (goes (how_it_builds l air s given)).said

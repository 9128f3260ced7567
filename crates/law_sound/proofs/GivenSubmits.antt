-- Behind a `submit` line, on a channel with a bearer of acknowledged data, what is gathered of what PDCP gives RLC
-- stands beside both ends: where the SDU is handed in, on the channel itself, its side's supply has it; where it is
-- refused, or of another channel, all is as it was.
use Rattle.std.proofs.Common.{◌≡◌, ◌≤◌, ℕ, Bool, true, false, ◌==◌, if◌then◌else◌, List, [], ◌∷◌, ◌++◌, Option, Some}
use Rattle.std.proofs.Common.{None, append-nil, refl, ap, sym, subst, ◌∙◌, ◌⊎◌, inl, inr}
use Rattle.std.proofs.lemmas.Bool.{eqb-true}
use Rattle.air_link.specs.Lines.{no_place}
use Rattle.air_record.specs.Submissions.{unrefused}
use Rattle.air_record.specs.declared.line.Line.TheVariants as lines
use Rattle.air_record.specs.declared.record.NoPlace.{NoPlace}
use Rattle.air_record.specs.declared.record.Record.{Record}
use Rattle.air_record.specs.declared.record.Record.TheVariants as records
use Rattle.air_record.specs.declared.submission.Submission.{Submission}
use Rattle.air_text.specs.Groups.{Group}
use Rattle.bearer.specs.Acknowledged.State.{State}
use Rattle.bearer.specs.declared.flow.Flow.{Flow}
use Rattle.bearer.specs.declared.flow.Flow.TheVariants.{Am}
use Rattle.bearer.specs.Submitting.{refusal as flow_refusal}
use Rattle.bearer_types.specs.Sides.{other}
use Rattle.bearer_types.specs.declared.config.BearerConfig.{BearerConfig}
use Rattle.l2_bits.specs.declared.fault.SubmitRefusal.{SubmitRefusal}
use Rattle.l2_node.specs.End.{End}
use Rattle.l2_node.specs.Submitting.{refusal}
use Rattle.l2_types.specs.declared.channel.Kind.TheVariants as bearers
use Rattle.l2_types.specs.declared.side.Side.{Side}
use Rattle.l2_types.specs.declared.side.Side.TheVariants.{Nb, Ue}
use Rattle.promises.specs.Arrival.{account_of, entries_from, entries_in}
use Rattle.promises.specs.Blocks.{kinds}
use Rattle.promises.specs.Events.{told_on}
use Rattle.promises.specs.Records.{events_of}
use Rattle.journal_flows.specs.FlowsTold.{Histories, histories as flows, no_events}
use Rattle.journal_flows.specs.Gathering.{Journal, MayTake, behind, behind_line, behind_records}
use Rattle.journal_given.specs.Giving.{bearer_at, all_given, may_take_by}
use Rattle.journal_given.specs.Supplies.{Bearer, History, histories, told as supply_told}
use Rattle.journal_lives.specs.LifeEvents.{running}
use Rattle.journal_takes.specs.TakeEvents.{SduSubmitted}
use Rattle.law_bearer.specs.AnyBearer.Calls.{Call as BearerCall, Submit as Submits, after as after_call, after_all}
use Rattle.law_deliver.specs.AmChannel.Arrival.{told_from}
use Rattle.law_deliver.specs.AmChannel.Lives.{AirStep, InLife, AreLiving, lives, end_at}
use Rattle.law_deliver.specs.AmFlow.Air.{Air, Calls, Step, happens, outset, IsGiven}
use Rattle.law_deliver.specs.AmFlow.Channels.{only, submits_of}
use Rattle.law_given.specs.BearerRecords.{IsRightOn, bearer_before, bearer_first, left_by, GoesByHistories}
use Rattle.law_given.specs.Confirming.{AreSizesTold}
use Rattle.law_given.specs.Joined.{rlc}
use Rattle.law_given.specs.OneBearer.{changed_if, bearer_submits}
use Rattle.law_given.proofs.BearerRecordsHistories.{one_bearer_by_histories}
use Rattle.law_given.proofs.Tied.{TiesGoOn, ties_go_on, calls_of_step}
use Rattle.law_given.proofs.TiedEnds.{ties_side}
use Rattle.law_node.specs.Calls.{Submit}
use Rattle.law_node.specs.Holding.{flow}
use Rattle.law_run.specs.Order.{IsRight, KeepsOrder}
use Rattle.law_run.specs.TwoEnds.Along.{at_side}
use Rattle.law_run.specs.TwoEnds.Logs.{logged, log_at, no_flight}
use Rattle.law_run.proofs.AnyAir.{at_end}
use Rattle.law_run.proofs.EmptyLists.{parts_empty}
use Rattle.law_run.proofs.Past.{link_behind}
use Rattle.law_run.proofs.TwoEnds.Going.{living_more}
use Rattle.law_words.specs.Arrivals.{Account, AccountEntry, no_account, account}
use Rattle.law_sound.specs.AgreeLaws.{AgreeOn}
use Rattle.law_sound.specs.BesideLaws.{ReadRecord, behind_all}
use Rattle.law_sound.specs.ComingLaws.{TellsFlows}
use Rattle.law_sound.specs.LivedFails.{HaveComeNew}
use Rattle.law_sound.specs.LivedHistories.{AreLived, Moment}
use Rattle.law_sound.proofs.AgreeJournals.{journals_agree}
use Rattle.law_sound.proofs.Agreeing.{Agrees}
use Rattle.law_sound.proofs.GivenAnswers.{none_answer}
use Rattle.law_sound.proofs.GivenBeside.{AreGivenOf, of_both, own_after, given_by_none, given_by_call}
use Rattle.law_sound.proofs.GivenBetween.{may, IsGivenBehind, GroupSaid, GoesBehind}
use Rattle.law_sound.proofs.GivenMoments.{way, bearer, history, sizes_told}
use Rattle.law_sound.proofs.GivenStepFacts.{lives_last, bearers_go, account_goes}
use Rattle.law_sound.proofs.GivenWays.{same_state, was_at, quiet_ways, own_way, far_way}
use Rattle.law_sound.proofs.GroupAgreeing.{agrees_behind}
use Rattle.law_sound.proofs.GatheredFails.{fails_still}
use Rattle.law_sound.proofs.GroupCarrying.{SubmitsCarrying, IsReadBehind, HandsIn, Refuses, submits_carrying}
use Rattle.law_sound.proofs.LivedFails.{AreThere, lived_there}
use Rattle.law_sound.proofs.Telling.{at_own}

-- ---- records

pub none_more : (told : List Record) (one : Record) (rest : List Record) → [] ≡ told ++ one ∷ rest → ⊥
none_more told one rest e = let none = (parts_empty told (one ∷ rest) (sym e)).1 in cc

pub only_one : (told : List Record) (one : Record) (rest : List Record) (x : Record) → x ∷ [] ≡ told ++ one ∷ rest
    → one ≡ x
only_one [] one rest x e = cc
only_one (y ∷ told) one rest x e =
    let more : [] ≡ told ++ one ∷ rest = cc in absurd (none_more told one rest more)

-- ---- what the line makes of both bearers of the channel, and of what is gathered of them

-- its side's is submitted the SDU
pub record IsSubmitted (side : Side) (octets : List ℕ) (was now : Side → State) (before behind : Bearer History)
    : Type 0 where
  pub accepts : flow_refusal (Am (was side)) octets ≡ None
  pub goes : after_call (Am (was side)) (Submits octets) ≡ Am (now side)
  pub far : now (other side) ≡ was (other side)
  pub bearer_is : behind ≡ own_after (was side) side (Submits octets) before

-- or nothing happens to them
pub record StaySo (was now : Side → State) (before behind : Bearer History) : Type 0 where
  pub same : (side : Side) → now side ≡ was side
  pub bearer_is : behind ≡ before

-- ---- the step that hands an SDU in

module _ (l lcid : ℕ) (octets : List ℕ) where
  abbrev submits : Side → Step
  submits side = at_side side (Calls (Submit lcid octets))

  taken_in : (e : End) (here : Bool) → refusal lcid octets e ≡ None → (lcid == l) ≡ here
      → submits_of (refusal lcid octets e) (lcid == l) octets ++ [] ≡ only here (Submits octets)
  taken_in e here taken at =
      append-nil (submits_of (refusal lcid octets e) (lcid == l) octets)
      ∙ ap (λ (r : Option SubmitRefusal). submits_of r (lcid == l) octets) taken
      ∙ ap (λ (b : Bool). only b (Submits octets)) at

  -- its side's bearer is submitted it, if it is that of the channel
  pub own_calls : (side : Side) (a : Air) (here : Bool) → refusal lcid octets (end_at side a) ≡ None
      → (lcid == l) ≡ here
      → calls_of_step l side a (InLife (submits side)) ≡ only here (Submits octets)
  own_calls Nb a here taken at = taken_in a.nb.end here taken at
  own_calls Ue a here taken at = taken_in a.ue.end here taken at

  own_accepts : (e : End) (b : State) → (lcid == l) ≡ true → flow l e ≡ Am b → refusal lcid octets e ≡ None
      → flow_refusal (Am b) octets ≡ None
  unfolding refusal
  own_accepts e b at is taken =
      ap (λ (f : Flow). flow_refusal f octets) (sym is)
      ∙ ap (λ (k : ℕ). flow_refusal (flow k e) octets) (sym (eqb-true lcid l at))
      ∙ taken

  pub far_calls : (side : Side) (a : Air) → calls_of_step l (other side) a (InLife (submits side)) ≡ []
  far_calls Nb a = refl
  far_calls Ue a = refl

  logs_none : (side : Side) (a : Air) → logged no_flight [] ≡ log_at a (InLife (submits side))
  logs_none Nb a = refl
  logs_none Ue a = refl

-- ---- what is gathered of the line's group, by the groups before it

pub refuses_it : (side : Side) (lcid : ℕ) (octets : List ℕ) (why : NoPlace)
    → unrefused (records.Refused side lcid why) (Some (record { side = side; lcid = lcid; octets = octets })) ≡ None
refuses_it side lcid octets why =
    ap (λ (b : Bool). if b then None else Some (record { side = side; lcid = lcid; octets = octets }))
    (at_own side lcid)

module _ (c : BearerConfig) (l : ℕ) (past : List Group) (g : Group) (side : Side) (lcid : ℕ) (octets : List ℕ) where
  abbrev now : Group
  now = record g { line = lines.Submit side lcid octets }

  -- its account, where its records tell nothing of PDUs
  account_stays : (from : Side) → entries_in c.pdcp_bits l from [] g.events ≡ []
      → account_of c l from (now ∷ past) ≡ account_of c l from past
  account_stays from none =
      let before = entries_from c.pdcp_bits l from past in
      ap (λ (hs : List AccountEntry). account (before ++ hs) no_account) none
      ∙ ap (λ (hs : List AccountEntry). account hs no_account) (append-nil before)

  module _ (low : l ≤ 10) (b : Bearer History) (is : bearer_at l (all_given histories past).bearers ≡ Some b) where
    abbrev goes : GoesByHistories l (may_take_by histories (now ∷ past)) now past
    goes = one_bearer_by_histories l [] now past low

    -- its bearer, as the SDU is submitted with the line, and as it is refused
    taken_on : g.events ≡ [] → bearer_at l (all_given histories (now ∷ past)).bearers
        ≡ changed_if (lcid == l) side (supply_told histories (SduSubmitted octets)) (Some b)
    taken_on none =
        goes.ends
        ∙ ap (λ (es : List Record). bearer_submits histories l (left_by now.line es) (bearer_first l now past es)) none
        ∙ ap (changed_if (lcid == l) side (supply_told histories (SduSubmitted octets))) (goes.begins ∙ is)

    refused_on : (why : NoPlace) → g.events ≡ records.Refused side lcid why ∷ []
        → bearer_at l (all_given histories (now ∷ past)).bearers ≡ Some b
    refused_on why are =
        goes.ends
        ∙ ap (λ (es : List Record). bearer_submits histories l (left_by now.line es) (bearer_first l now past es)) are
        ∙ goes.goes [] (records.Refused side lcid why)
        ∙ ap (λ (sdu : Option Submission). bearer_submits histories l sdu (bearer_first l now past []))
        (refuses_it side lcid octets why)
        ∙ goes.begins ∙ is

  -- ---- what is gathered of flows agrees with what is read, where no event of the channel is told

  module _ (may_take : MayTake) (h : IsReadBehind may_take c l past) (read : IsReadBehind may_take c l (now ∷ past))
      (journal_is : read.journal
      ≡ behind_all (kinds (now ∷ past)) read.newest.reads (behind_line flows now.line h.journal))
      (silent : (s : Side) → told_on l (events_of s g.events) ≡ [])
      (agree : AgreeOn l (behind flows no_events may_take past) h.journal) where
    agree_on : AgreeOn l (behind flows no_events may_take (now ∷ past)) read.journal
    agree_on =
        let ks = kinds (now ∷ past) in
        let reads = read.newest.reads in
        let begins = behind_line flows now.line (behind flows no_events may_take past) in
        let first = behind_line flows now.line h.journal in
        let behind_all_reads = behind_all ks reads first in
        let at_line : AgreeOn l begins first =
        (journals_agree l (behind flows no_events may_take past) h.journal agree).lines now.line in
        subst (λ (j : Journal Histories). AgreeOn l (behind flows no_events may_take (now ∷ past)) j) (sym journal_is)
        (subst (λ (es : List Record). AgreeOn l (behind_records flows may_take past ks [] es begins) behind_all_reads)
        read.newest.are
        ((journals_agree l begins first at_line).all ks may_take past [] reads
        (none_answer l may_take past [] reads
        (λ s. ap (λ (es : List Record). told_on l (events_of s es)) read.newest.are ∙ silent s))))

-- ---- behind the line

module _ (all : List Group) (c : BearerConfig) (l : ℕ) (past : List Group) (g : Group) (side : Side) (lcid : ℕ)
    (octets : List ℕ) (flows_told : TellsFlows (record g { line = lines.Submit side lcid octets } ∷ past))
    (data' : c.kind ≡ bearers.Am) (h : IsReadBehind (may all) c l past) (w : IsGivenBehind all c l past h)
    (read : IsReadBehind (may all) c l (record g { line = lines.Submit side lcid octets } ∷ past)) where
  abbrev behind_it : List Group
  behind_it = record g { line = lines.Submit side lcid octets } ∷ past

  abbrev begun : Air
  begun = outset w.nb w.ue

  abbrev air : Air
  air = lives w.steps begun

  -- ---- it is handed in

  module _ (x : HandsIn (may all) c l past (record g { line = lines.Submit side lcid octets }) side lcid octets h read)
    where
      abbrev s : Step
      s = submits l lcid octets side

      abbrev on : List AirStep
      on = w.steps ++ InLife s ∷ []

      given : IsGiven l air s
      given = subst (λ (a : Air). IsGiven l a s) w.there x.given

      n : TiesGoOn l c w.nb w.ue w.steps (InLife s) w.tied
      n = ties_go_on l c w.nb w.ue w.steps (InLife s) given w.tied

      abbrev was : Side → State
      was z = bearer l c w.nb w.ue w.steps w.tied z

      abbrev now_is : Side → State
      now_is z = bearer l c w.nb w.ue on n.next z

      abbrev calls : Side → List BearerCall
      calls z = calls_of_step l z air (InLife s)

      living : AreLiving l begun on
      living = living_more l begun w.steps (InLife s ∷ []) w.living (given, tt)

      there : read.air ≡ lives on begun
      there = x.air_is ∙ ap (λ (a : Air). happens a s) w.there ∙ sym (lives_last w.steps s w.nb w.ue)

      lived : AreLived l air h.moment.pdus h.moment.down h.moment.up
      lived = subst (λ (a : Air). AreLived l a h.moment.pdus h.moment.down h.moment.up) w.there h.read.lived

      lived_on : AreLived l (lives on begun) read.moment.pdus read.moment.down read.moment.up
      lived_on = subst (λ (a : Air). AreLived l a read.moment.pdus read.moment.down read.moment.up) there
          read.read.lived

      new : HaveComeNew l air
      new = subst (HaveComeNew l) w.there h.read.new

      both_there : AreThere l air
      both_there = lived_there l air h.moment lived

      goes_to : (z : Side) → after_all (Am (was z)) (calls z) ≡ Am (now_is z)
      goes_to z =
          bearers_go l c w.keys w.nb w.ue w.begins w.steps s w.tied n.next living given new both_there no_flight []
          (logs_none l lcid octets side air) z

      none_written : (from : Side) → entries_in c.pdcp_bits l from [] g.events ≡ []
      none_written from = ap (λ (es : List Record). entries_in c.pdcp_bits l from [] es) x.none

      accounts : (from : Side) → told_from c l from on begun ≡ account_of c l from behind_it
      accounts from =
          account_goes l c w.keys w.nb w.ue w.begins w.steps s w.tied n.next living given new both_there no_flight []
          (logs_none l lcid octets side air) from [] (account_of c l from past)
          (ties_side l c w.nb w.ue w.steps w.tied).0 (ties_side l c w.nb w.ue w.steps w.tied).1 refl (w.account_is from)
          ∙ sym (account_stays c l past g side lcid octets from (none_written from))

      agree : AgreeOn l (behind flows no_events (may all) behind_it) read.journal
      agree =
          agree_on c l past g side lcid octets (may all) h read
          (x.journal_is
          ∙ ap (λ (xs : List ReadRecord). behind_all (kinds behind_it) xs
          (behind_line flows (lines.Submit side lcid octets) h.journal)) (sym x.reads_are))
          (λ z. ap (λ (es : List Record). told_on l (events_of z es)) x.none) w.agree

      agrees : (from : Side) → Agrees (told_from c l from on begun) (read.journal.flows.acked from l)
      agrees from =
          subst (λ (a : Account). Agrees a (read.journal.flows.acked from l)) (sym (accounts from))
          (subst (Agrees (account_of c l from behind_it)) (agree.same from)
          (agrees_behind (may all) from l c behind_it h.low flows_told read.is data'))

      runs_so : (from : Side) → running (read.journal.flows.acked from l) ≡ history from read.moment
      runs_so Nb = read.read.gathered.down_is
      runs_so Ue = read.read.gathered.up_is

      sizes : (from : Side) → AreSizesTold (rlc (way l c w.nb w.ue on n.next from)) (history from read.moment)
      sizes from =
          subst (AreSizesTold (rlc (way l c w.nb w.ue on n.next from))) (runs_so from)
          (sizes_told l c w.nb w.ue on n.next from (read.journal.flows.acked from l) (agrees from))

      -- ---- what is gathered of both sides

      abbrev GivenOn : Bearer History → Type 0
      GivenOn b =
          AreGivenOf c n.next.joined.there n.next.joined.back n.next.joined.one n.next.joined.two read.moment.down
          read.moment.up b

      record BearerThen : Type 0 where
        bearer_then : Bearer History
        is : changed_if (lcid == l) side (supply_told histories (SduSubmitted octets)) (Some w.bearer)
            ≡ Some bearer_then
        given_then : GivenOn bearer_then
        how : IsSubmitted side octets was now_is w.bearer bearer_then ⊎ StaySo was now_is w.bearer bearer_then

      taken_at : refusal lcid octets (end_at side air) ≡ None
      taken_at =
          ap (refusal lcid octets) (ap (end_at side) (sym w.there) ∙ at_end side (link_behind past) h.air h.on)
          ∙ x.taken

      far : calls (other side) ≡ []
      far = far_calls l lcid octets side air

      far_same : now_is (other side) ≡ was (other side)
      far_same =
          same_state (was (other side)) (now_is (other side))
          (ap (after_all (Am (was (other side)))) (sym far) ∙ goes_to (other side))

      submitted_here : calls side ≡ Submits octets ∷ [] → GivenOn (own_after (was side) side (Submits octets) w.bearer)
      submitted_here one =
          (given_by_call l c w.nb w.ue w.steps (InLife s) w.tied n.next h.moment read.moment lived lived_on sizes
          w.bearer
          w.given side (Submits octets) tt (own_way l c w.nb w.ue w.steps s w.tied n side (Submits octets) tt one far)
          (far_way l c w.nb w.ue w.steps s w.tied n side (Submits octets) tt one far)
          (ap (after_all (Am (was side))) (sym one) ∙ goes_to side) far_same).0

      submitted_elsewhere : calls side ≡ [] → GivenOn w.bearer
      submitted_elsewhere none =
          let quiet : (z : Side) → calls z ≡ [] = of_both side (λ (z : Side). calls z ≡ []) none far in
          given_by_none l c w.nb w.ue w.steps (InLife s) w.tied n.next h.moment read.moment lived lived_on sizes
          w.bearer
          w.given (quiet_ways l c w.nb w.ue w.steps s w.tied n quiet)
          (λ z. same_state (was z) (now_is z) (ap (after_all (Am (was z))) (sym (quiet z)) ∙ goes_to z))

      one_submitted : (lcid == l) ≡ true → calls side ≡ Submits octets ∷ []
          → IsSubmitted side octets was now_is w.bearer (own_after (was side) side (Submits octets) w.bearer)
      one_submitted at one = record {
        accepts = own_accepts l lcid octets (end_at side air) (was side) at (was_at l c w.nb w.ue w.steps w.tied side)
            taken_at;
        goes = ap (after_all (Am (was side))) (sym one) ∙ goes_to side;
        far = far_same;
        bearer_is = refl;
      }

      none_submitted : calls side ≡ [] → StaySo was now_is w.bearer w.bearer
      none_submitted none =
          let quiet : (z : Side) → calls z ≡ [] = of_both side (λ (z : Side). calls z ≡ []) none far in
          record {
            same = λ z. same_state (was z) (now_is z) (ap (after_all (Am (was z))) (sym (quiet z)) ∙ goes_to z);
            bearer_is = refl;
          }

      by_channel : (here : Bool) → (lcid == l) ≡ here → BearerThen
      by_channel true at = record {
        bearer_then = own_after (was side) side (Submits octets) w.bearer;
        is = ap (λ (b : Bool). changed_if b side (supply_told histories (SduSubmitted octets)) (Some w.bearer)) at;
        given_then = submitted_here (own_calls l lcid octets side air true taken_at at);
        how = inl (one_submitted at (own_calls l lcid octets side air true taken_at at));
      }
      by_channel false at = record {
        bearer_then = w.bearer;
        is = ap (λ (b : Bool). changed_if b side (supply_told histories (SduSubmitted octets)) (Some w.bearer)) at;
        given_then = submitted_elsewhere (own_calls l lcid octets side air false taken_at at);
        how = inr (none_submitted (own_calls l lcid octets side air false taken_at at));
      }

      then' : BearerThen
      then' = by_channel (lcid == l) refl

      handed_in : IsGivenBehind all c l behind_it read
      handed_in = record {
        keys = w.keys;
        nb = w.nb;
        ue = w.ue;
        begins = w.begins;
        steps = on;
        living = living;
        there = there;
        tied = n.next;
        account_is = accounts;
        bearer = then'.bearer_then;
        is = taken_on c l past g side lcid octets h.low w.bearer w.is x.none ∙ then'.is;
        given = then'.given_then;
        agree = agree;
      }

      handed_said : GroupSaid all l behind_it
      handed_said told one rest are = absurd (none_more told one rest (sym x.none ∙ are))

  -- ---- it is refused

  module _ (x : Refuses (may all) c l past (record g { line = lines.Submit side lcid octets }) side lcid octets h read)
    where
      refused : IsGivenBehind all c l behind_it read
      refused = record {
        keys = w.keys;
        nb = w.nb;
        ue = w.ue;
        begins = w.begins;
        steps = w.steps;
        living = w.living;
        there = x.air_is ∙ w.there;
        tied = w.tied;
        account_is = λ from.
            w.account_is from
            ∙ sym (account_stays c l past g side lcid octets from
            (ap (λ (es : List Record). entries_in c.pdcp_bits l from [] es) x.are));
        bearer = w.bearer;
        is = refused_on c l past g side lcid octets h.low w.bearer w.is _ x.are;
        given =
            subst (λ (m : Moment). AreGivenOf c w.tied.joined.there w.tied.joined.back w.tied.joined.one
            w.tied.joined.two
            m.down m.up w.bearer) (sym x.moment_is) w.given;
        agree =
            agree_on c l past g side lcid octets (may all) h read x.journal_is
            (λ z. ap (λ (es : List Record). told_on l (events_of z es)) x.are) w.agree;
      }

      refused_said : GroupSaid all l behind_it
      refused_said told one rest are =
          subst (λ (z : Record). IsRightOn l z
          (bearer_before l (record g { line = lines.Submit side lcid octets }) past told one))
          (sym (only_one told one rest _ (sym x.are ∙ are))) tt

-- with what its records and calls are
pub record SubmitsSo (all : List Group) (c : BearerConfig) (l : ℕ) (past : List Group) (g : Group) (side : Side)
    (lcid : ℕ) (octets : List ℕ) (h : GoesBehind all c l past) : Type 0 where
  pub next : GoesBehind all c l (record g { line = lines.Submit side lcid octets } ∷ past)
  pub told : (g.events ≡ []) ⊎ ((why : NoPlace) × (g.events ≡ records.Refused side lcid why ∷ []))
  pub how : IsSubmitted side octets (bearer l c h.given.nb h.given.ue h.given.steps h.given.tied)
      (bearer l c next.given.nb next.given.ue next.given.steps next.given.tied) h.given.bearer next.given.bearer
      ⊎ StaySo (bearer l c h.given.nb h.given.ue h.given.steps h.given.tied)
      (bearer l c next.given.nb next.given.ue next.given.steps next.given.tied) h.given.bearer next.given.bearer

pub submits_so : (all newer : List Group) (c : BearerConfig) (l : ℕ) (past : List Group) (g : Group) (side : Side)
    (lcid : ℕ) (octets : List ℕ) → all ≡ newer ++ record g { line = lines.Submit side lcid octets } ∷ past
    → IsRight past (record g { line = lines.Submit side lcid octets }) → KeepsOrder past
    → TellsFlows (record g { line = lines.Submit side lcid octets } ∷ past) → c.kind ≡ bearers.Am
    → (h : GoesBehind all c l past) → SubmitsSo all c l past g side lcid octets h
unfolding handed_in n then' refused
submits_so all newer c l past g side lcid octets are right order flows_told data' h =
    let x = submits_carrying (may all) c l past g side lcid octets right order h.read in by x x.so
  where
    by : (x : SubmitsCarrying (may all) c l past (record g { line = lines.Submit side lcid octets }) side lcid octets
        h.read)
        → HandsIn (may all) c l past (record g { line = lines.Submit side lcid octets }) side lcid octets h.read
        x.behind
        ⊎ Refuses (may all) c l past (record g { line = lines.Submit side lcid octets }) side lcid octets h.read
        x.behind
        → SubmitsSo all c l past g side lcid octets h
    by x (inl y) =
        let given = handed_in all c l past g side lcid octets flows_told data' h.read h.given x.behind y in
        record {
          next = record {
            read = x.behind;
            given = given;
            said = handed_said all c l past g side lcid octets flows_told data' h.read h.given x.behind y;
            fails = fails_still (may all) c l _ past x.behind.newest h.read.journal x.behind.journal refl h.given.agree
                given.agree x.first_is x.journal_is;
          };
          told = inl y.none;
          how = (then' all c l past g side lcid octets flows_told data' h.read h.given x.behind y).how;
        }
    by x (inr y) =
        let given = refused all c l past g side lcid octets flows_told data' h.read h.given x.behind y in
        record {
          next = record {
            read = x.behind;
            given = given;
            said = refused_said all c l past g side lcid octets flows_told data' h.read h.given x.behind y;
            fails = fails_still (may all) c l _ past x.behind.newest h.read.journal x.behind.journal refl h.given.agree
                given.agree x.first_is x.journal_is;
          };
          told = inr (no_place y.why, y.are);
          how = inr (record { same = λ z. refl; bearer_is = refl });
        }

pub submits_given : (all newer : List Group) (c : BearerConfig) (l : ℕ) (past : List Group) (g : Group) (side : Side)
    (lcid : ℕ) (octets : List ℕ) → all ≡ newer ++ record g { line = lines.Submit side lcid octets } ∷ past
    → IsRight past (record g { line = lines.Submit side lcid octets }) → KeepsOrder past
    → TellsFlows (record g { line = lines.Submit side lcid octets } ∷ past) → c.kind ≡ bearers.Am
    → GoesBehind all c l past → GoesBehind all c l (record g { line = lines.Submit side lcid octets } ∷ past)
submits_given all newer c l past g side lcid octets are right order flows_told data' h =
    (submits_so all newer c l past g side lcid octets are right order flows_told data' h).next

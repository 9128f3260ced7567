-- A block of one end comes to the other, and records tell it: what is gathered of what PDCP gives RLC goes on beside
-- both ends.
use Rattle.std.proofs.Common.{◌≡◌, ℕ, ◌≤◌, Bool, false, List, [], ◌∷◌, ◌++◌, length, Option, Some, None, Result, Ok}
use Rattle.std.proofs.Common.{Err, append-nil, append_assoc, refl, ap, sym, subst, ◌∙◌, arith}
use Rattle.std.proofs.lemmas.List.{length-map}
use Rattle.std.specs.List.{AllByRecursion}
use Rattle.air_record.specs.declared.record.Arrived.TheVariants.{Got}
use Rattle.air_record.specs.declared.record.Record.{Record}
use Rattle.air_record.specs.declared.record.Record.TheVariants as records
use Rattle.air_record.specs.Submissions.{submitted_by}
use Rattle.air_text.specs.Groups.{Group}
use Rattle.bearer.specs.Acknowledged.Hearing.{after_arrival}
use Rattle.bearer.specs.Acknowledged.State.{State}
use Rattle.bearer.specs.declared.flow.Flow.{Flow}
use Rattle.bearer.specs.declared.flow.Flow.TheVariants.{Am}
use Rattle.bearer_types.specs.Sides.{other, sender_of, heard_by}
use Rattle.bearer_types.specs.declared.event.Event.{Event}
use Rattle.bearer_types.specs.declared.config.BearerConfig.{BearerConfig}
use Rattle.l2_node.specs.End.{End}
use Rattle.l2_num.specs.Ascending.{IsAscending}
use Rattle.l2_types.specs.declared.side.Side.{Side}
use Rattle.l2_types.specs.declared.side.Side.TheVariants.{Nb, Ue}
use Rattle.pdcp_pdu.specs.Kinds.{IsKind}
use Rattle.pdcp_pdu.specs.declared.PdcpKind.TheVariants.{Am as AmKind}
use Rattle.rlc_pdu.specs.declared.fault.RlcRefusal.{RlcRefusal}
use Rattle.rlc_pdu.specs.Pdus.{AcknowledgedPdu, Payload, Status}
use Rattle.rlc_pdu.specs.Reading.{am_at}
use Rattle.promises.specs.Arrival.{account_of, entries_at, entries_in}
use Rattle.promises.specs.Events.{told_on}
use Rattle.promises.specs.Flows.{loops_in}
use Rattle.promises.specs.Pdus.{carried}
use Rattle.promises.specs.Records.{events_of, sent_last}
use Rattle.journal_account.specs.Confirmed.{is_confirmed_sdu}
use Rattle.journal_account.specs.FlowEvents.{FlowEvent}
use Rattle.journal_account.specs.Stream.{sdu_sizes, is_in_sequence}
use Rattle.journal_flows.specs.declared.parcels.Parcel.{Parcel}
use Rattle.journal_flows.specs.FlowsTold.{Histories}
use Rattle.journal_flows.specs.Gathering.{Journal, sending_of, sent_last as sent_parcels}
use Rattle.journal_flows.specs.NumberedPdus.{carries_status}
use Rattle.journal_given.specs.Giving.{side_of, on_side}
use Rattle.journal_given.specs.Supplies.{Supply, Bearer, History}
use Rattle.journal_lives.specs.LifeEvents.{running}
use Rattle.law_words.specs.Arrivals.{AccountEntry, Account, account}
use Rattle.law_bearer.specs.AnyBearer.Calls.{Arrive, after as called, after_all}
use Rattle.law_bearer.specs.AnyBearer.Rounds.{arrivals}
use Rattle.law_bearer.specs.AmBearer.Calls.{IsOfData, IsIdle}
use Rattle.law_bearer.proofs.AnyBearer.Between.{IsBetween}
use Rattle.law_rlc.specs.AmPair.Flow.{sender}
use Rattle.law_rlc.specs.AmPair.Sdus.{offered}
use Rattle.law_node.specs.Calls.{Receive}
use Rattle.law_node.specs.Holding.{flow}
use Rattle.law_node.specs.Telling.{told_of}
use Rattle.law_node.proofs.Silences.{writes_nothing}
use Rattle.law_deliver.specs.AmFlow.Channels.{calls_of}
use Rattle.law_deliver.specs.AmFlow.Ups.{tells_in, tells_over}
use Rattle.law_deliver.specs.AmChannel.Arrival.{told_from}
use Rattle.law_deliver.specs.AmChannel.Lives.{AirStep, lives, end_at}
use Rattle.law_deliver.specs.AmFlow.Air.{outset}
use Rattle.law_deliver.proofs.AmFlow.Ups.{Stands, tells_of}
use Rattle.law_deliver.proofs.AmChannel.Bearers.{between_after, tells_so}
use Rattle.law_given.specs.BearerRecords.{bearer_first, landed_in}
use Rattle.law_given.specs.SupplyLaws.{supplied_all, AreRight, TellsNothing, ConfirmsAnew}
use Rattle.law_given.specs.Beside.{GoesOnAs, progress, AreGivenBy}
use Rattle.law_given.specs.Confirming.{AreSizesTold}
use Rattle.law_given.specs.Joined.{Direction, IsDirection, rlc}
use Rattle.law_given.specs.Landing.{pdus_of, news_in, news_of, ready_of}
use Rattle.law_given.proofs.GivenRecords.{BringsNoBlock, AllRight, journal_at, one_behind, records_gather}
use Rattle.law_given.proofs.Landing.{arrives-so}
use Rattle.law_given.proofs.Supplied.{all-then, right-then, given_are_offered}
use Rattle.law_given.proofs.SupplyQuiet.{arrivals_tell_nothing}
use Rattle.law_given.proofs.BesideBlocks.{blocks_stay_beside}
use Rattle.law_given.proofs.BesideConfirming.{none_confirmed_anew, those_confirmed_anew, news_ascend}
use Rattle.law_given.proofs.Tied.{AreTied}
use Rattle.law_run.specs.TwoEnds.Logs.{Hears, Flight, process_of, all_tell, logged, last_in, flight_in}
use Rattle.law_run.specs.TwoEnds.Logs.{flight_behind}
use Rattle.law_run.proofs.EmptyLists.{parts_empty}
use Rattle.law_run.proofs.TwoEnds.Along.{looped_more}
use Rattle.law_run.proofs.TwoEnds.Going.{tells_more}
use Rattle.law_sound.specs.LivedHistories.{AreLived, Moment}
use Rattle.law_sound.proofs.Agreeing.{Agrees}
use Rattle.law_sound.proofs.CarriedShapes.{BlockBrings}
use Rattle.law_sound.proofs.GivenMoments.{history, way, bearer, sizes_told, passed_told, hands_first, follows_so}
use Rattle.law_sound.proofs.LoggedEntries.{entries_of_all, records_tell, quiet_tells}
use Rattle.law_sound.proofs.LogEntries.{first_entry, entry_is}
use Rattle.law_sound.proofs.LoggedEvents.{HearsNone, events_in, records_events, own_told, far_told, tells_hear_none}
use Rattle.law_sound.proofs.LoggedEvents.{none_comes_in}

-- ---- what arrives tells nothing of what is given

both_nothing : (xs ys : List Event) (s : Supply History) → TellsNothing xs s → TellsNothing ys s
    → TellsNothing (xs ++ ys) s
both_nothing xs ys s h k = record {
  same = all-then xs ys s ∙ ap (supplied_all ys) h.same ∙ k.same;
  right = right-then xs ys s h.right (subst (AreRight ys) (sym h.same) k.right);
}

arrivals_quiet : (l : ℕ) (pdus : List (List ℕ)) (b : State) → IsBetween l (Am b) → (s : Supply History)
    → TellsNothing (tells_over l (Am b) (arrivals pdus)) s
arrivals_quiet l [] b k s = record { same = refl; right = tt }
arrivals_quiet l (pdu ∷ pdus) b k s =
    let next : IsBetween l (Am (after_arrival b pdu)) =
    subst (IsBetween l) (arrives-so b pdu) (between_after l (Am b) (Arrive pdu) k) in
    both_nothing (tells_in l (Am b) (Arrive pdu)) (tells_over l (called (Am b) (Arrive pdu)) (arrivals pdus)) s
    (subst (λ (es : List Event). TellsNothing es s) (tells_so l b (Arrive pdu) k.own) (arrivals_tell_nothing b pdu s))
    (subst (λ (f : Flow). TellsNothing (tells_over l f (arrivals pdus)) s) (sym (arrives-so b pdu))
    (arrivals_quiet l pdus (after_arrival b pdu) next s))

-- so an end tells nothing of it as a block comes
pub block_quiet : (side : Side) (l : ℕ) (e : End) (b : State) (block : List ℕ) → Stands side l e → flow l e ≡ Am b
    → IsBetween l (Am b) → (s : Supply History) → TellsNothing (told_on l (told_of e (Receive block))) s
block_quiet side l e b block stands is k s =
    let all = calls_of l e (Receive block) in
    let told_is = (tells_of side l e (Receive block) stands (record { adds_none = refl; moves_none = refl })).told_is in
    subst (λ (es : List Event). TellsNothing es s)
    (sym (told_is ∙ ap (λ (f : Flow). tells_over l f all) is))
    (arrivals_quiet l (carried l (heard_by e.side) block) b k s)

-- ---- records that log a block that comes, and then what its end tells

module _ (from : Side) (process : ℕ) (octets : List ℕ) (es : List Event) (sent : Flight) where
  pub record HasBlock (xs : List Record) : Type 0 where
    pub silent : List Record
    pub heard : Option Bool
    pub behind : List Record
    pub are : xs ≡ silent ++ records.Air (heard_by (other from)) Got heard ∷ behind
    pub silent_logs : logged sent silent ≡ []
    pub process_is : process_of (other (other from)) (flight_in silent sent) ≡ process
    pub octets_are : (flight_in silent sent).octets ≡ octets
    pub behind_logs : logged (flight_in silent sent) behind ≡ all_tell (other from) es

  -- up to the one of the block
  abbrev pub up_to : (xs : List Record) → HasBlock xs → List Record
  up_to xs k = k.silent ++ records.Air (heard_by (other from)) Got k.heard ∷ []

  pub has_block : (xs : List Record)
      → logged sent xs ≡ Hears (other from) process octets ∷ all_tell (other from) es → HasBlock xs
  has_block xs h =
      let x = Hears (other from) process octets in
      let f = first_entry xs sent x (all_tell (other from) es) h in
      let before = flight_in f.silent sent in
      let i = entry_is before f.one x f.one_logs in
      record {
        silent = f.silent;
        heard = i.heard;
        behind = f.behind;
        are = f.told_is ∙ ap (λ (one : Record). f.silent ++ one ∷ f.behind) i.is;
        silent_logs = f.silent_logs;
        process_is = i.process_is;
        octets_are = i.octets_are;
        behind_logs = subst
            (λ (one : Record). logged (flight_behind one before) f.behind ≡ all_tell (other from) es) i.is
            f.behind_logs;
      }

  pub up_to_is : (xs : List Record) (k : HasBlock xs) → xs ≡ up_to xs k ++ k.behind
  up_to_is xs k =
      k.are ∙ sym (append_assoc k.silent (records.Air (heard_by (other from)) Got k.heard ∷ []) k.behind)

same_nothing : (own : Side) (f : Supply History → Supply History) (b : Bearer History)
    → f (side_of own b) ≡ side_of own b → on_side own f b ≡ b
same_nothing Nb f b e = ap (λ (s : Supply History). record { nb = s; ue = b.ue }) e
same_nothing Ue f b e = ap (λ (s : Supply History). record { nb = b.nb; ue = s }) e

comes_from : (from : Side) → sender_of (heard_by (other from)) ≡ from
comes_from Nb = refl
comes_from Ue = refl

module _ (l : ℕ) (low : l ≤ 10) (newer : List Group) (now : Group) (past : List Group)
    (none : submitted_by now.line ≡ None) where
  pub right_then : (told xs ys : List Record) → AllRight l low newer now past none told xs
      → AllRight l low newer now past none (told ++ xs) ys → AllRight l low newer now past none told (xs ++ ys)
  right_then told [] ys h k =
      subst (λ (all : List Record). AllRight l low newer now past none all ys) (append-nil told) k
  right_then told (one ∷ xs) ys h k = (
    h.0,
    right_then (told ++ one ∷ []) xs ys h.1
        (subst (λ (all : List Record). AllRight l low newer now past none all ys) (sym (append_assoc told
        (one ∷ []) xs))
        k),
  )

  module _ (from : Side) (process : ℕ) (octets : List ℕ) (es : List Event) (sent : Flight) (told xs : List Record)
      (k : HasBlock from process octets es sent xs) where
    abbrev pub landed : Bearer History → Bearer History
    landed b =
        landed_in from l (journal_at l low newer now past none (told ++ up_to from process octets es sent xs k)) b

    pub record BlockLands (b : Bearer History) : Type 0 where
      pub is : bearer_first l now past (told ++ xs) ≡ Some (landed b)
      pub right : AllRight l low newer now past none told xs

    pub block_lands : (b : Bearer History) → loops_in l xs ≡ [] → bearer_first l now past told ≡ Some b
        → ((s : Supply History) → TellsNothing (told_on l es) s) → BlockLands b
    block_lands b loops is quiet =
        let side = other from in
        let one = records.Air (heard_by (other from)) Got k.heard in
        let before = told ++ k.silent in
        let upto = before ++ one ∷ [] in
        let unlooped = parts_empty (loops_in l k.silent) (loops_in l (one ∷ k.behind))
        (looped_more Ue l k.silent (one ∷ k.behind) ∙ ap (loops_in l) (sym k.are) ∙ loops) in
        let untold : (s : Side) → told_on l (events_of s k.silent) ≡ [] =
        λ s. ap (told_on l) (records_events s sent k.silent ∙ ap (events_in s) k.silent_logs) in
        let first = records_gather l low newer now past none side k.silent told [] b (untold side)
        (untold (other side)) unlooped.0
        (none_comes_in sent k.silent (subst (AllByRecursion HearsNone) (sym k.silent_logs) tt)) is tt in
        let stays : bearer_first l now past before ≡ Some b =
        first.is ∙ ap (λ (x : Bearer History). Some x) (same_nothing side (supplied_all []) b refl) in
        let d = landed_in from l (journal_at l low newer now past none upto) b in
        let lands : bearer_first l now past upto ≡ Some d =
        one_behind l low newer now past none before one (Some b) stays
        ∙ ap (λ (s : Side). Some (landed_in s l (journal_at l low newer now past none upto) b)) (comes_from from) in
        let f = flight_in k.silent sent in
        let own : told_on l (events_of side k.behind) ≡ told_on l es =
        ap (told_on l) (records_events side f k.behind ∙ ap (events_in side) k.behind_logs ∙ own_told side es) in
        let far : told_on l (events_of (other side) k.behind) ≡ [] =
        ap (told_on l) (records_events (other side) f k.behind ∙ ap (events_in (other side)) k.behind_logs
        ∙ far_told side es) in
        let last = records_gather l low newer now past none side k.behind upto (told_on l es) d own far unlooped.1
        (none_comes_in f k.behind
        (subst (AllByRecursion HearsNone) (sym k.behind_logs) (tells_hear_none side es)))
        lands (quiet (side_of side d)).right in
        let parts : upto ++ k.behind ≡ told ++ xs =
        append_assoc before (one ∷ []) k.behind ∙ append_assoc told k.silent (one ∷ k.behind)
        ∙ ap (λ (all : List Record). told ++ all) (sym k.are) in
        record {
          is = ap (bearer_first l now past) (sym parts) ∙ last.is
              ∙ ap (λ (x : Bearer History). Some x)
              (same_nothing side (supplied_all (told_on l es)) d (quiet (side_of side d)).same)
              ∙ ap (λ (all : List Record). Some (landed_in from l (journal_at l low newer now past none all) b))
              (append_assoc told k.silent (one ∷ []));
          right = subst (AllRight l low newer now past none told) (sym k.are)
              (right_then told k.silent (one ∷ k.behind) first.right (tt, last.right));
        }

-- ---- those behind it tell nothing of the PDUs of the channel

entries_alike : (bits l : ℕ) (from : Side) (one other : List ℕ) (xs : List Record) → AllByRecursion BringsNoBlock xs
    → entries_in bits l from one xs ≡ entries_in bits l from other xs
entries_alike bits l from one other [] h = refl
entries_alike bits l from one other (r ∷ xs) h =
    ap (λ (es : List AccountEntry). es ++ entries_in bits l from (sent_last r one) xs) (at r h.0)
    ∙ ap (λ (es : List AccountEntry). entries_at bits l from other r ++ es)
    (entries_alike bits l from (sent_last r one) (sent_last r other) xs h.1)
  where
    at : (r : Record) → BringsNoBlock r → entries_at bits l from one r ≡ entries_at bits l from other r
    at (records.Air direction Got heard) h = absurd h
    at r h = refl

entries_up_to : (bits l : ℕ) (side from : Side) (process : ℕ) (e : End) (octets : List ℕ) (sent : Flight)
    (told xs : List Record) (k : HasBlock from process octets (told_of e (Receive octets)) sent xs)
    → entries_in bits l side [] (told ++ xs)
    ≡ entries_in bits l side [] (told ++ up_to from process octets (told_of e (Receive octets)) sent xs k)
entries_up_to bits l side from process e octets sent told xs k =
    let es = told_of e (Receive octets) in
    let first = up_to from process octets es sent xs k in
    let all = told ++ first in
    let f = flight_in k.silent sent in
    let nothing : entries_in bits l side (last_in all []) k.behind ≡ [] =
    entries_alike bits l side (last_in all []) f.octets k.behind
    (none_comes_in f k.behind
    (subst (AllByRecursion HearsNone) (sym k.behind_logs) (tells_hear_none (other from) es)))
    ∙ records_tell bits l side f k.behind ∙ ap (entries_of_all bits l side) k.behind_logs
    ∙ quiet_tells bits l side (other from) e (Receive octets) ((writes_nothing e).receiving octets) in
    ap (λ (ys : List Record). entries_in bits l side [] (told ++ ys)) (up_to_is from process octets es sent xs k)
    ∙ ap (entries_in bits l side []) (sym (append_assoc told first k.behind))
    ∙ tells_more bits l side [] all k.behind
    ∙ ap (λ (hs : List AccountEntry). entries_in bits l side [] all ++ hs) nothing
    ∙ append-nil (entries_in bits l side [] all)

-- ---- what one STATUS at most newly confirms ascends

few_ascend : (d : Direction) (b : State) (statuses : List (List ℕ)) → length statuses ≤ 1
    → (sender (rlc d)).state ≡ b.tx → b.tx.accounts.news ≡ [] → IsAscending 0 (news_of statuses b)
few_ascend d b [] few is none = tt
few_ascend d b (pdu ∷ []) few is none =
    subst (IsAscending 0) (sym (append-nil (news_in (am_at pdu) b))) (by (am_at pdu))
  where
    by : (r : Result AcknowledgedPdu RlcRefusal) → IsAscending 0 (news_in r b)
    by (Err refusal) = tt
    by (Ok (Payload data')) = tt
    by (Ok (Status status)) = news_ascend d b status is none
few_ascend d b (pdu ∷ another ∷ more) few is none = absurd (omega (arith, few))

-- ---- both ends, by the side that a direction goes from

module _ (l : ℕ) (c : BearerConfig) (nb ue : End) (steps : List AirStep) (t : AreTied l c nb ue steps) where
  direction_is : (side : Side) → IsDirection c (way l c nb ue steps t side)
  direction_is Nb = t.joined.there_is
  direction_is Ue = t.joined.back_is

  data_is : (side : Side) → IsOfData c.pdcp_bits (bearer l c nb ue steps t side)
  data_is Nb = t.joined.one_data
  data_is Ue = t.joined.two_data

  idle_is : (side : Side) → IsIdle (bearer l c nb ue steps t side)
  idle_is Nb = t.joined.one_idle
  idle_is Ue = t.joined.two_idle

  sender_is : (side : Side) → (sender (rlc (way l c nb ue steps t side))).state ≡ (bearer l c nb ue steps t side).tx
  sender_is Nb = t.joined.there_joins.rlc_sender_is
  sender_is Ue = t.joined.back_joins.rlc_sender_is

  pub flow_is : (side : Side)
      → flow l (end_at side (lives steps (outset nb ue))) ≡ Am (bearer l c nb ue steps t side)
  flow_is Nb = t.joined.one_is
  flow_is Ue = t.joined.two_is

  pub stands_so : (side : Side) → Stands side l (end_at side (lives steps (outset nb ue)))
  stands_so Nb = t.matched.nb_stands
  stands_so Ue = t.matched.ue_stands

  is_between : (side : Side) → IsBetween l (Am (bearer l c nb ue steps t side))
  is_between Nb = subst (IsBetween l) (sym t.matched.nb.bearer_is ∙ t.joined.one_is) t.matched.nb_steady.between
  is_between Ue = subst (IsBetween l) (sym t.matched.ue.bearer_is ∙ t.joined.two_is) t.matched.ue_steady.between

  -- what is gathered stands beside them
  abbrev pub GivenFrom : Side → Moment → Bearer History → Type 0
  GivenFrom from m b =
      AreGivenBy c (way l c nb ue steps t from) (way l c nb ue steps t (other from)) (bearer l c nb ue steps t from)
      (bearer l c nb ue steps t (other from)) (history from m) (history (other from) m) (side_of from b)
      (side_of (other from) b)

  given_from : (from : Side) (m : Moment) (b : Bearer History) → GivenFrom Nb m b → GivenFrom from m b
  given_from Nb m b g = g
  given_from Ue m b g = record { own_is = g.far_is; far_is = g.own_is }

  given_to : (from : Side) (m : Moment) (b : Bearer History) → GivenFrom from m b → GivenFrom Nb m b
  given_to Nb m b g = g
  given_to Ue m b g = record { own_is = g.far_is; far_is = g.own_is }

-- ---- a block of a side comes to the other

module _ (l : ℕ) (c : BearerConfig) (nb ue : End) (low : l ≤ 10) (newer : List Group) (now : Group) (past : List Group)
    (none : submitted_by now.line ≡ None) (steps : List AirStep) (x : AirStep) (t : AreTied l c nb ue steps)
    (t' : AreTied l c nb ue (steps ++ x ∷ [])) (m m' : Moment) (from : Side) (process : ℕ) (octets : List ℕ)
    (sent : Flight) (told xs : List Record) (b : Bearer History) where
  abbrev pub tells_it : List Event
  tells_it = told_of (end_at (other from) (lives steps (outset nb ue))) (Receive octets)

  abbrev pub Has : Type 0
  Has = HasBlock from process octets tells_it sent xs

  -- behind the record of the block
  abbrev pub journal_up_to : Has → Journal Histories
  journal_up_to k = journal_at l low newer now past none (told ++ up_to from process octets tells_it sent xs k)

  abbrev hears : State
  hears = bearer l c nb ue steps t (other from)

  pub record BlockComes (parcels : List Parcel) (brought : BlockBrings l from octets parcels) : Type 0 where
    pub lived : AreLived l (lives steps (outset nb ue)) m.pdus m.down m.up
    pub lived_on : AreLived l (lives (steps ++ x ∷ []) (outset nb ue)) m'.pdus m'.down m'.up
    pub is : bearer_first l now past told ≡ Some b
    pub given : AreGivenBy c t.joined.there t.joined.back t.joined.one t.joined.two m.down m.up b.nb b.ue
    -- the records
    pub logs : logged sent xs ≡ Hears (other from) process octets ∷ all_tell (other from) tells_it
    pub loops : loops_in l xs ≡ []
    pub agrees : (first more : List Record) → xs ≡ first ++ more → (side : Side)
        → Agrees (account (entries_in c.pdcp_bits l side [] (told ++ first)) (account_of c l side past))
        ((journal_at l low newer now past none (told ++ first)).flows.acked side l)
    pub account_is : (side : Side) → told_from c l side (steps ++ x ∷ []) (outset nb ue)
        ≡ account (entries_in c.pdcp_bits l side [] (told ++ xs)) (account_of c l side past)
    pub parcels_are : (k : Has) → sent_parcels (sending_of from (journal_up_to k)) ≡ parcels
    -- those behind that of the block leave the flow that goes the other way
    pub later : (k : Has) → running ((journal_up_to k).flows.acked (other from) l) ≡ history (other from) m'
    pub ends : running ((journal_at l low newer now past none (told ++ xs)).flows.acked from l) ≡ history from m'
    -- both directions
    pub there : GoesOnAs (way l c nb ue steps t from) (way l c nb ue (steps ++ x ∷ []) t' from) []
        (ready_of brought.brings.last hears.rx) []
    pub back : GoesOnAs (way l c nb ue steps t (other from)) (way l c nb ue (steps ++ x ∷ []) t' (other from)) [] []
        (news_of brought.brings.statuses hears)
    pub left : after_all (Am hears) (arrivals (pdus_of brought.brings))
        ≡ Am (bearer l c nb ue (steps ++ x ∷ []) t' (other from))
    pub stays : bearer l c nb ue (steps ++ x ∷ []) t' from ≡ bearer l c nb ue steps t from

  pub record BlockGoes : Type 0 where
    pub gathered : Bearer History
    pub is : bearer_first l now past (told ++ xs) ≡ Some gathered
    pub given : AreGivenBy c t'.joined.there t'.joined.back t'.joined.one t'.joined.two m'.down m'.up gathered.nb
        gathered.ue
    pub right : AllRight l low newer now past none told xs

  module _ (parcels : List Parcel) (brought : BlockBrings l from octets parcels) (h : BlockComes parcels brought) where
    abbrev k : Has
    k = has_block from process octets tells_it sent xs h.logs

    abbrev side : Side
    side = other from

    abbrev j : Journal Histories
    j = journal_up_to k

    abbrev last : Journal Histories
    last = journal_at l low newer now past none (told ++ xs)

    abbrev gone : Bearer History
    gone = landed l low newer now past none from process octets tells_it sent told xs k b

    before : GivenFrom l c nb ue steps t from m b
    before = given_from l c nb ue steps t from m b h.given

    agreed : (one : Side) → Agrees (told_from c l one (steps ++ x ∷ []) (outset nb ue)) (j.flows.acked one l)
    agreed one =
        subst (λ (a : Account). Agrees a (j.flows.acked one l))
        (sym (h.account_is one ∙ ap (λ (es : List AccountEntry). account es (account_of c l one past))
        (entries_up_to c.pdcp_bits l one from process (end_at side (lives steps (outset nb ue))) octets sent told xs
        k)))
        (h.agrees (up_to from process octets tells_it sent xs k) k.behind
        (up_to_is from process octets tells_it sent xs k) one)

    agreed_last : (one : Side) → Agrees (told_from c l one (steps ++ x ∷ []) (outset nb ue)) (last.flows.acked one l)
    agreed_last one =
        subst (λ (a : Account). Agrees a (last.flows.acked one l)) (sym (h.account_is one))
        (h.agrees xs [] (sym (append-nil xs)) one)

    abbrev there : Direction
    there = way l c nb ue (steps ++ x ∷ []) t' from

    abbrev back : Direction
    back = way l c nb ue (steps ++ x ∷ []) t' side

    abbrev news : List ℕ
    news = news_of brought.brings.statuses hears

    sizes_there : AreSizesTold (rlc there) (history from m')
    sizes_there =
        subst (AreSizesTold (rlc there)) h.ends
        (sizes_told l c nb ue (steps ++ x ∷ []) t' from (last.flows.acked from l) (agreed_last from))

    sizes_back : AreSizesTold (rlc back) (history side m')
    sizes_back =
        subst (AreSizesTold (rlc back)) (h.later k)
        (sizes_told l c nb ue (steps ++ x ∷ []) t' side (j.flows.acked side l) (agreed side))

    -- what RLC was given of the direction that goes back, by what is counted of it
    many : length (sdu_sizes (history side m')) ≡ (side_of side b).given
    many =
        let was = way l c nb ue steps t side in
        ap (length {A = ℕ}) sizes_back.sdus
        ∙ length-map (offered (rlc back)) (λ (pdu : List ℕ). length pdu)
        ∙ ap {B = ℕ} (λ (pdus : List (List ℕ)). length pdus) (h.back.offered_is ∙ append-nil (offered (rlc was)))
        ∙ sym (given_are_offered (progress was (history side m)) hears.pdcp.tx (side_of side b) before.far_is.supplied)

    confirms : ConfirmsAnew (is_confirmed_sdu (history side m))
        (is_confirmed_sdu (running (j.flows.acked side l))) (side_of side b).given news
    confirms =
        let was = way l c nb ue steps t side in
        let f = follows_so l c nb ue steps t side m h.lived in
        let g = follows_so l c nb ue (steps ++ x ∷ []) t' side m' h.lived_on in
        let anew = those_confirmed_anew f.most g.most was back (history side m) (history side m') [] [] news h.back
        before.far_is.sizes sizes_back f.follows g.follows
        (few_ascend was hears brought.brings.statuses brought.few (sender_is l c nb ue steps t side)
        (idle_is l c nb ue steps t side).confirmed) in
        subst (λ (es : List FlowEvent).
        ConfirmsAnew (is_confirmed_sdu (history side m)) (is_confirmed_sdu es) (side_of side b).given news)
        (sym (h.later k))
        (subst (λ (n : ℕ). ConfirmsAnew (is_confirmed_sdu (history side m)) (is_confirmed_sdu (history side m')) n news)
        many anew)

    same : (number : ℕ) → is_confirmed_sdu (history from m') number ≡ is_confirmed_sdu (history from m) number
    same =
        let f = follows_so l c nb ue steps t from m h.lived in
        let g = follows_so l c nb ue (steps ++ x ∷ []) t' from m' h.lived_on in
        none_confirmed_anew f.most g.most (way l c nb ue steps t from) there (history from m) (history from m') []
        (ready_of brought.brings.last hears.rx) h.there before.own_is.sizes sizes_there f.follows g.follows

    silent : carries_status l (sent_parcels (sending_of from j)) ≡ false → news ≡ []
    silent e =
        ap (λ (statuses : List (List ℕ)). news_of statuses hears)
        (brought.silent (ap (carries_status l) (sym (h.parcels_are k)) ∙ e))

    behind : GivenFrom l c nb ue (steps ++ x ∷ []) t' from m' gone
    behind =
        let d = direction_is l c nb ue steps t from in
        subst (λ (one : State).
        AreGivenBy c there back one (bearer l c nb ue (steps ++ x ∷ []) t' side) (history from m') (history side m')
        (side_of from gone) (side_of side gone)) (sym h.stays)
        (blocks_stay_beside c (way l c nb ue steps t from) (way l c nb ue steps t side) there back
        (bearer l c nb ue steps t from) hears (bearer l c nb ue (steps ++ x ∷ []) t' side) (history from m)
        (history from m') (history side m) (history side m') from brought.brings
        (carries_status l (sent_parcels (sending_of from j))) (is_in_sequence (running (j.flows.acked from l)))
        (is_confirmed_sdu (running (j.flows.acked side l))) b
        (subst (λ (bits : ℕ). IsKind (AmKind bits)) d.bits d.kind)
        (data_is l c nb ue steps t side) (idle_is l c nb ue steps t side) brought.statuses brought.last h.left h.there
        h.back (hands_first l c nb ue (steps ++ x ∷ []) t' from)
        (passed_told l c nb ue (steps ++ x ∷ []) t' from (j.flows.acked from l) (agreed from))
        (λ number. ap (λ (es : List FlowEvent). is_confirmed_sdu es number) (h.later k))
        confirms silent same sizes_there sizes_back before)

    pub block_goes : BlockGoes
    block_goes =
        let e = end_at side (lives steps (outset nb ue)) in
        let r = block_lands l low newer now past none from process octets tells_it sent told xs k b h.loops h.is
        (block_quiet side l e hears octets (stands_so l c nb ue steps t side) (flow_is l c nb ue steps t side)
        (is_between l c nb ue steps t side)) in
        record {
          gathered = gone;
          is = r.is;
          given = given_to l c nb ue (steps ++ x ∷ []) t' from m' gone behind;
          right = r.right;
        }

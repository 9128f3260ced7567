-- Records of a group, in which no block comes: what is acknowledged of each flow stays, and what `send` records name
-- is gathered beside flows as it is where PDUs are checked.
use Rattle.std.proofs.Common.{◌≡◌, ◌≤◌, ℕ, ◌+◌, ◌-◌, ◌||◌, Bool, true, false, if◌then◌else◌, Option, Some, None}
use Rattle.std.proofs.Common.{List, [], ◌∷◌, ◌++◌, map, append-nil, append_assoc, refl, ap, sym, subst, ◌∙◌}
use Rattle.std.proofs.Common.{arith, inl, inr}
use Rattle.std.specs.List.{AllByRecursion}
use Rattle.std.proofs.lemmas.Bool.{cases_lt, lt-ltb, le-ltb}
use Rattle.air_record.specs.declared.line.Line.{Line}
use Rattle.air_record.specs.declared.line.Line.TheVariants as lines
use Rattle.air_record.specs.declared.record.Arrived.TheVariants.{Got}
use Rattle.air_record.specs.declared.record.Record.{Record}
use Rattle.air_record.specs.declared.record.Record.TheVariants as records
use Rattle.air_record.specs.Submissions.{submitted_by}
use Rattle.air_text.specs.Groups.{Group}
use Rattle.bearer_types.specs.Sides.{is_same}
use Rattle.bearer_types.specs.declared.config.BearerConfig.{BearerConfig}
use Rattle.bearer_types.specs.declared.event.Event.{Event}
use Rattle.l2_types.specs.declared.side.Side.{Side}
use Rattle.l2_types.specs.declared.side.Side.TheVariants.{Nb, Ue}
use Rattle.mac_pdu.specs.declared.item.Direction.TheVariants as directions
use Rattle.pdu_show.specs.declared.kinds.Layout.{Layout}
use Rattle.promises.specs.Blocks.{kinds}
use Rattle.promises.specs.Configs.{config_of}
use Rattle.promises.specs.Names.{sent_pdus}
use Rattle.promises.specs.Parts.{is_handover}
use Rattle.journal_account.specs.Acked.{is_acked}
use Rattle.journal_account.specs.FlowAccount.{account_of}
use Rattle.journal_account.specs.FlowEvents.{FlowEvent, IsHistory}
use Rattle.journal_account.specs.FlowSending.{FlowSending, acked_kept, number_at}
use Rattle.journal_account.proofs.Acking.{Acks, acks_outset, acks_step}
use Rattle.journal_lives.specs.FlowLives.{FlowLives, lives_of}
use Rattle.journal_lives.specs.LifeEvents.{LifeEvent, AreLives, running}
use Rattle.journal_lives.proofs.LivesTold.{histories as are_histories, lives_are_true}
use Rattle.journal_flows.specs.declared.sending.Named.{Named}
use Rattle.journal_flows.specs.Accounts.{Keeping, account_at, is_acked_kind}
use Rattle.journal_flows.specs.FlowsTold.{Histories, histories, no_events}
use Rattle.journal_flows.specs.Gathering.{Journal, MayTake, behind}
use Rattle.journal_flows.specs.Gathering.{behind_end, behind_line, behind_record, behind_records, sending_of}
use Rattle.journal_flows.specs.Gathering as gathering
use Rattle.journal_flows.specs.Laws.{account_by}
use Rattle.journal_flows.specs.NumberedPdus.{told}
use Rattle.journal_flows.proofs.Groups.{histories_are_lives}
use Rattle.journal_given.specs.Giving.{may_take_by}
use Rattle.journal_given.specs.Supplies as given
use Rattle.journal_given.specs.Supplies.{History}
use Rattle.journal_given.proofs.Ties.{settled_keeps}
use Rattle.journal_sent.specs.SentFlows.{acked_by}
use Rattle.journal_sent.specs.Sending.{acked_at, named_of}
use Rattle.law_given.specs.OneBearer.{OneChannel, first_of}
use Rattle.law_given.proofs.BearerRecordsFlows.{flows_say_on_one_bearer}
use Rattle.law_given.proofs.GivenRecords.{BringsNoBlock, journal_at}
use Rattle.law_given.proofs.OneBearerGroups.{one_channel_by_groups}
use Rattle.law_run.specs.TwoEnds.Logs.{Flight, LogEntry, all_tell, logged}
use Rattle.law_sent.proofs.ChannelsNamed.{AreNamedAlike, as_named, named_alike_records}
use Rattle.law_sound.specs.BesideLaws.{ReadRecord, behind_all}
use Rattle.law_sound.specs.LoadLaws.{name_of}
use Rattle.law_sound.specs.LoggedRecords.{records_of}
use Rattle.law_sound.specs.NamedLogs.{named_over}
use Rattle.law_sound.specs.NamedSteps.{SendsNoNewBlock}
use Rattle.law_sound.proofs.Delivering.{bearer_is}
use Rattle.law_sound.proofs.KeptFlows.{own_record_keeps}
use Rattle.law_sound.proofs.NamedLogs.{events_name, records_name}
use Rattle.law_sound.proofs.SentRecords.{giving_before, giving_first, sending_first, sending_next}

-- ---- which numbers are acknowledged, by what is kept of a flow

pub acks_so : (most : ℕ) (es : List FlowEvent) → IsHistory es
    → Acks es (account_of most es).sending.base (account_of most es).sending.numbers
acks_so most [] h = acks_outset
acks_so most (e ∷ es) h = acks_step e es (account_of most es) h.0 (acks_so most es h.1)

pub acked_kept_is : (most : ℕ) (es : List FlowEvent) → IsHistory es → (n : ℕ)
    → acked_kept n (account_of most es).sending ≡ is_acked es n
acked_kept_is most es h n =
    let s : FlowSending = (account_of most es).sending in
    let a = acks_so most es h in
    elim (cases_lt n s.base) [
      | inl below ↦
          ap (λ (b : Bool). b || (number_at s.numbers (n - s.base)).acked) (lt-ltb n s.base below)
          ∙ sym (a.below n below)
      | inr from ↦
          let at : s.base + (n - s.base) ≡ n = omega (arith, from) in
          ap (λ (b : Bool). b || (number_at s.numbers (n - s.base)).acked) (le-ltb n s.base from)
          ∙ (a.acked (n - s.base) ∙ ap (is_acked es) at)
    ]

-- ---- only a STATUS that is heard acknowledges any

none_or : (a : Bool) → (a || false) ≡ a
none_or true = refl
none_or false = refl

module _ (n : ℕ) where
  abbrev acked_in : List LifeEvent → Bool
  acked_in es = is_acked (running es) n

  record_keeps : (ks : List (Option Layout)) (more : Bool) (one : Record) (side : Side) (l : ℕ)
      (j : Journal Histories) → BringsNoBlock one → SendsNoNewBlock one
      → acked_in ((behind_record histories ks more one j).flows.acked side l) ≡ acked_in (j.flows.acked side l)
  record_keeps ks more (records.Of own e) side l j brings sends =
      own_record_keeps acked_in (λ count size es. none_or (acked_in es)) (λ again es. none_or (acked_in es))
      (λ es. none_or (acked_in es)) (λ es. none_or (acked_in es)) ks more own e side l j
  record_keeps ks more (records.Block direction process true rv octets) side l j brings sends = absurd sends
  record_keeps ks more (records.Block directions.Down process false rv octets) side l j brings sends = refl
  record_keeps ks more (records.Block directions.Up process false rv octets) side l j brings sends = refl
  record_keeps ks more (records.Air direction Got heard) side l j brings sends = absurd brings
  record_keeps ks more (records.Air direction what heard) side l j brings sends = refl
  record_keeps ks more one side l j brings sends = refl

  records_keep : (ks : List (Option Layout)) (side : Side) (l : ℕ) (xs : List ReadRecord) (j : Journal Histories)
      → AllByRecursion BringsNoBlock (records_of xs) → AllByRecursion SendsNoNewBlock (records_of xs)
      → acked_in ((behind_all ks xs j).flows.acked side l) ≡ acked_in (j.flows.acked side l)
  records_keep ks side l [] j brings sends = refl
  records_keep ks side l (x ∷ xs) j brings sends =
      records_keep ks side l xs (behind_record histories ks x.more x.one j) brings.1 sends.1
      ∙ record_keeps ks x.more x.one side l j brings.0 sends.0

-- ---- the journal behind more records

abbrev read_by : MayTake → List Group → List Record → List Record → List ReadRecord
read_by may past before [] = []
read_by may past before (one ∷ xs) =
    record { more = may past before one; one = one } ∷ read_by may past (one ∷ before) xs

module _ (may : MayTake) (past : List Group) (ks : List (Option Layout)) where
  are_read : (before xs : List Record) → records_of (read_by may past before xs) ≡ xs
  are_read before [] = refl
  are_read before (one ∷ xs) = ap (λ (zs : List Record). one ∷ zs) (are_read (one ∷ before) xs)

  all_read : (before xs : List Record) (j : Journal Histories)
      → behind_records histories may past ks before xs j ≡ behind_all ks (read_by may past before xs) j
  all_read before [] j = refl
  all_read before (one ∷ xs) j = all_read (one ∷ before) xs (behind_record histories ks (may past before one) one j)

  pub record ReadOn (before told xs : List Record) (j : Journal Histories) : Type 0 where
    pub reads : List ReadRecord
    pub are : records_of reads ≡ xs
    pub is : behind_records histories may past ks before (told ++ xs) j
        ≡ behind_all ks reads (behind_records histories may past ks before told j)

  read_on : (before told xs : List Record) (j : Journal Histories) → ReadOn before told xs j
  read_on before [] xs j =
      record { reads = read_by may past before xs; are = are_read before xs; is = all_read before xs j }
  read_on before (one ∷ told) xs j =
      let r = read_on (one ∷ before) told xs (behind_record histories ks (may past before one) one j) in
      record { reads = r.reads; are = r.are; is = r.is }

  one_on : (before told : List Record) (one : Record) (j : Journal Histories)
      → (more : Bool) × (behind_records histories may past ks before (told ++ one ∷ []) j
      ≡ behind_record histories ks more one (behind_records histories may past ks before told j))
  one_on before [] one j = (may past before one, refl)
  one_on before (first ∷ told) one j =
      one_on (first ∷ before) told one (behind_record histories ks (may past before first) first j)

no_handover : (line : Line) → is_handover line ≡ false → gathering.is_handover line ≡ false
no_handover (lines.Handover user rrc integrity) plain = absurd cc
no_handover line plain = refl

module _ (l : ℕ) (low : l ≤ 10) (newer : List Group) (now : Group) (past : List Group)
    (none : submitted_by now.line ≡ None) where
  abbrev may_take : MayTake
  may_take = may_take_by given.histories (newer ++ now ∷ past)

  abbrev at_told : List Record → Journal Histories
  at_told all = journal_at l low newer now past none all

  abbrev line_read : Journal Histories
  line_read = behind_line histories now.line (behind histories no_events may_take past)

  pub record GoesOnRead (told xs : List Record) : Type 0 where
    pub reads : List ReadRecord
    pub are : records_of reads ≡ xs
    pub is : at_told (told ++ xs) ≡ behind_all (kinds (now ∷ past)) reads (at_told told)

  pub goes_on_read : (told xs : List Record) → GoesOnRead told xs
  goes_on_read told xs =
      let r = read_on may_take past (kinds (now ∷ past)) [] told xs line_read in
      record { reads = r.reads; are = r.are; is = r.is }

  -- ---- what is named

  named_next : (told : List Record) (one : Record) → AreNamedAlike (at_told told) (sending_first now past told)
      → AreNamedAlike (at_told (told ++ one ∷ [])) (sending_first now past (told ++ one ∷ []))
  named_next told one alike =
      let r = one_on may_take past (kinds (now ∷ past)) [] told one line_read in
      subst (λ (j : Journal Histories). AreNamedAlike j (sending_first now past (told ++ one ∷ []))) (sym r.1)
      (subst (AreNamedAlike (behind_record histories (kinds (now ∷ past)) r.0 one (at_told told)))
      (sym (sending_next now past told one))
      (named_alike_records histories (kinds (now ∷ past)) r.0 one (giving_before now past told one) (at_told told)
      (sending_first now past told) alike))

  pub named_more : (xs told : List Record) → AreNamedAlike (at_told told) (sending_first now past told)
      → AreNamedAlike (at_told (told ++ xs)) (sending_first now past (told ++ xs))
  named_more [] told alike =
      subst (λ (zs : List Record). AreNamedAlike (at_told zs) (sending_first now past zs)) (sym (append-nil told)) alike
  named_more (one ∷ xs) told alike =
      subst (λ (zs : List Record). AreNamedAlike (at_told zs) (sending_first now past zs))
      (append_assoc told (one ∷ []) xs) (named_more xs (told ++ one ∷ []) (named_next told one alike))

  own_named : (side : Side) (names : List Named) → (if is_same side side then [] ++ names else []) ≡ names
  own_named Nb names = refl
  own_named Ue names = refl

  -- by what a side tells behind its last new block
  pub named_told : (told first : List Record) (side : Side) (sent : Flight) (said : List Event)
      → logged sent first ≡ all_tell side said → (sending_of side (at_told told)).named ≡ []
      → AreNamedAlike (at_told told) (sending_first now past told)
      → as_named (named_of side (sending_first now past (told ++ first))) ≡ map name_of (sent_pdus said)
  named_told told first side sent said logs silent alike =
      let r = goes_on_read told first in
      sym (named_more first told alike side)
      ∙ ap (λ (j : Journal Histories). (sending_of side j).named) r.is
      ∙ records_name (kinds (now ∷ past)) side sent r.reads (at_told told)
      ∙ ap (λ (hs : List LogEntry). named_over side hs (sending_of side (at_told told)).named)
      (ap (logged sent) r.are ∙ logs)
      ∙ ap (named_over side (all_tell side said)) silent
      ∙ events_name side side said []
      ∙ own_named side (map name_of (sent_pdus said))

  -- ---- what is acknowledged, before a record

  module _ (c : BearerConfig) (config : config_of l (now ∷ past) ≡ Some c) (acked_so : is_acked_kind c.kind ≡ true)
      (stays : is_handover now.line ≡ false) where
    account_so : (told : List Record) (side : Side) (one : Record)
        → account_at side l (giving_before now past told one).kept.journal.flows
        ≡ Some (lives_of c.tx.max_retx c.first ((at_told told).flows.acked side l))
    account_so told side one =
        let says = (flows_say_on_one_bearer l newer now past side low).first told in
        let es = (at_told told).flows.acked side l in
        ap (λ (k : Keeping). account_at side l k.journal.flows)
        (settled_keeps given.histories one (giving_first now past told)
        ∙ ap (λ (x : OneChannel History). x.kept)
        ((one_channel_by_groups History given.histories l newer now past low).within told))
        ∙ (says.account_is
        ∙ (ap (λ (o : Option BearerConfig). account_by o es) (bearer_is l (now ∷ past) ∙ config)
        ∙ ap (λ (b : Bool). if b then Some (lives_of c.tx.max_retx c.first es) else None) acked_so))

    lives_so : (told : List Record) (side : Side) → AreLives ((at_told told).flows.acked side l)
    lives_so told side =
        subst (λ (b : Bool). AreLives ((behind_end histories b (at_told told)).flows.acked side l))
        (no_handover now.line stays)
        (histories_are_lives may_take (first_of now told ∷ past) side l)

    -- by the history of the flow
    pub acked_before : (told : List Record) (side : Side) (one : Record) (n : ℕ)
        → acked_at side l (giving_before now past told one) n
        ≡ is_acked (running ((at_told told).flows.acked side l)) n
    acked_before told side one n =
        let es = (at_told told).flows.acked side l in
        let lives = lives_so told side in
        let a = (lives_are_true c.tx.max_retx c.first es lives).account in
        ap (λ (o : Option FlowLives). acked_by o n) (account_so told side one)
        ∙ (ap (λ x. acked_kept n x.sending) a
        ∙ acked_kept_is c.tx.max_retx (running es) (are_histories es lives) n)

    -- behind records of a group in which no block comes, and no new one is sent
    pub acked_behind : (told xs : List Record) (side : Side) (one : Record) → AllByRecursion BringsNoBlock xs
        → AllByRecursion SendsNoNewBlock xs → (n : ℕ)
        → acked_at side l (giving_before now past (told ++ xs) one) n
        ≡ is_acked (running ((at_told told).flows.acked side l)) n
    acked_behind told xs side one brings sends n =
        let r = goes_on_read told xs in
        acked_before (told ++ xs) side one n
        ∙ (ap (λ (j : Journal Histories). is_acked (running (j.flows.acked side l)) n) r.is
        ∙ records_keep n (kinds (now ∷ past)) side l r.reads (at_told told)
        (subst (AllByRecursion BringsNoBlock) (sym r.are) brings)
        (subst (AllByRecursion SendsNoNewBlock) (sym r.are) sends))

-- A channel with acknowledged bearers: which numbers are acknowledged is told by the history of each flow, before a
-- record of a group, and how far VT(A) is behind it.
use Rattle.std.proofs.Common.{◌≡◌, ◌≤◌, ℕ, Bool, true, false, if◌then◌else◌, List, [], ◌∷◌, ◌++◌, Option, Some, None}
use Rattle.std.proofs.Common.{slice_index_or, append-nil, ap, sym, subst, ◌∙◌, inl, inr, arith}
use Rattle.std.specs.List.{AllByRecursion}
use Rattle.std.proofs.lemmas.Bool.{cases_lt}
use Rattle.air_link.specs.Link.{end_of}
use Rattle.air_record.specs.declared.record.Record.{Record}
use Rattle.air_record.specs.Submissions.{submitted_by}
use Rattle.air_text.specs.Groups.{Group}
use Rattle.bearer.specs.Acknowledged.State.{State}
use Rattle.bearer.specs.declared.flow.Flow.{Flow as BearerFlow}
use Rattle.bearer.specs.declared.flow.Flow.TheVariants.{Am}
use Rattle.bearer_types.specs.declared.config.BearerConfig.{BearerConfig}
use Rattle.l2_node.specs.End.{End}
use Rattle.l2_types.specs.declared.side.Side.{Side}
use Rattle.l2_types.specs.declared.side.Side.TheVariants.{Nb, Ue}
use Rattle.pdcp_pdu.specs.declared.pdu.PdcpKind.{PdcpKind}
use Rattle.pdu_show.specs.declared.kinds.Layout.{Layout}
use Rattle.pdu_show.specs.declared.kinds.Layout.TheVariants as layouts
use Rattle.promises.specs.Blocks.{kinds}
use Rattle.promises.specs.Configs.{config_of}
use Rattle.promises.specs.Parts.{is_handover}
use Rattle.journal_account.specs.Acked.{is_acked}
use Rattle.journal_account.specs.FlowAccount.{FlowAccount, account_of}
use Rattle.journal_account.specs.FlowEvents.{FlowEvent}
use Rattle.journal_account.specs.FlowSending.{SentNumber}
use Rattle.journal_account.proofs.Acking.{Acks}
use Rattle.journal_flows.specs.Accounts.{account_at, is_acked_kind}
use Rattle.journal_flows.specs.FlowsTold.{Histories, histories, flows_told}
use Rattle.journal_flows.specs.Gathering.{Journal, sending_of, behind_record}
use Rattle.journal_flows.specs.Laws.{account_by}
use Rattle.journal_flows.proofs.Groups.{histories_are_lives}
use Rattle.journal_given.specs.Giving.{all_given, may_take_by}
use Rattle.journal_given.specs.Supplies as given
use Rattle.journal_given.specs.Supplies.{History}
use Rattle.journal_lives.specs.FlowLives.{FlowLives, lives_of}
use Rattle.journal_lives.specs.LifeEvents.{running}
use Rattle.journal_lives.proofs.LivesTold.{histories as are_histories}
use Rattle.journal_sent.specs.Sending.{acked_at}
use Rattle.law_account.specs.History.{Follows}
use Rattle.law_deliver.specs.AmChannel.Lives.{AirStep, InLife, end_at, lives}
use Rattle.law_deliver.specs.AmFlow.Air.{Air, Step, happens}
use Rattle.law_deliver.proofs.AmFlow.Carrying.{front, rest}
use Rattle.law_given.specs.BearerRecords.{flows_in}
use Rattle.law_given.specs.OneBearer.{OneChannel, first_of}
use Rattle.law_given.proofs.BearerRecordsFlows.{account_behind}
use Rattle.law_given.proofs.OneBearerGroups.{one_channel_by_groups}
use Rattle.law_node.specs.Holding.{flow}
use Rattle.law_run.specs.TwoEnds.Logs.{Flight, process_of, flight_in, logged, log_at}
use Rattle.law_run.proofs.AnyAir.{at_end}
use Rattle.law_run.proofs.Past.{link_behind}
use Rattle.law_sound.specs.AlikeLaws.{AreAlike, AreAlikeJournals}
use Rattle.law_sound.specs.BesideLaws.{ReadRecord, behind_all, IsGatheredBeside}
use Rattle.law_sound.specs.LivedHistories.{AreLived, Moment}
use Rattle.law_sound.specs.LoggedRecords.{records_of}
use Rattle.law_sound.specs.StepReading.{AreFormed, AreReadTo, HasCountOn, IsFlightOf, IsRead}
use Rattle.law_sound.proofs.AlikeHistories.{alike_acked, alike_lives}
use Rattle.law_sound.proofs.AlikeJournals.{alike_journals}
use Rattle.law_sound.proofs.Delivering.{bearer_is}
use Rattle.law_sound.proofs.GivenMoments.{history}
use Rattle.law_sound.proofs.GroupCarrying.{IsReadBehind, gathered}
use Rattle.law_sound.proofs.QueueAt.{IsBase, KnowsAcked, TellsStep}
use Rattle.law_sound.proofs.QueueBases.{AreBasesLow}
use Rattle.law_sound.proofs.QueueBeside.{IsAckedBy, IsBaseLow}
use Rattle.law_sound.proofs.SentEnds.{life_account}
use Rattle.law_sound.proofs.SentJournals.{acked_behind, acked_kept_is, acks_so, goes_on_read}
use Rattle.law_sound.proofs.SentRecords.{giving_before}
use Rattle.law_sound.proofs.StepNames.{processes_known}
use Rattle.law_sound.proofs.StepReading.{steps_are_read}

-- ---- by alike histories the same numbers are acknowledged

module _ (l : ℕ) (a : Air) (m : Moment) (i j : Journal Histories)
    (beside : IsGatheredBeside l a m.pdus m.down m.up j) (alike : AreAlikeJournals i j) where
  history_alike : (side : Side) → AreAlike (running (i.flows.acked side l)) (history side m)
  history_alike Nb =
      subst (AreAlike (running (i.flows.acked Nb l))) beside.down_is (alike_lives _ _ (alike.flows.acked Nb l))
  history_alike Ue =
      subst (AreAlike (running (i.flows.acked Ue l))) beside.up_is (alike_lives _ _ (alike.flows.acked Ue l))

  acked_alike : (side : Side) → is_acked (running (i.flows.acked side l)) ≡ is_acked (history side m)
  acked_alike side = alike_acked _ _ (history_alike side)

-- so VT(A) is
base_low : (es fs : List FlowEvent) (b d : ℕ) (ns ms : List SentNumber) → Acks es b ns → Acks fs d ms
    → is_acked es ≡ is_acked fs → b ≤ d
base_low es fs b d ns ms one another same = elim (cases_lt d b) [
  | inl less ↦
      (let acked : is_acked es d ≡ true = one.below d less in
      let not_so : is_acked es d ≡ false = ap (λ (p : ℕ → Bool). p d) same ∙ another.opens in
      absurd cc)
  | inr le ↦ le
]

-- ---- the bearer of a side follows the history of what goes from it

pub record FollowsAt (l : ℕ) (a : Air) (side : Side) (es : List FlowEvent) : Type 0 where
  pub bearer : State
  pub bearer_is : flow l (end_at side a) ≡ Am bearer
  pub most : ℕ
  pub follows : Follows most es bearer.tx

pub follows_at : (l : ℕ) (a : Air) (m : Moment) → AreLived l a m.pdus m.down m.up → (side : Side)
    → FollowsAt l a side (history side m)
follows_at l a m h Nb =
    let f = h.air.by_air.flows.down in
    record {
      bearer = f.from_bearer;
      bearer_is = f.from_is;
      most = h.nb_bearer.tx_config.max_retx;
      follows = h.beside.by_nb.follows;
    }
follows_at l a m h Ue =
    let f = h.air.by_air.flows.up in
    record {
      bearer = f.from_bearer;
      bearer_is = f.from_is;
      most = h.ue_bearer.tx_config.max_retx;
      follows = h.beside.by_ue.follows;
    }

-- ---- among the records of a group

both_alike : (ks : List (Option Layout)) (xs ys : List ReadRecord) → records_of xs ≡ records_of ys
    → (i j : Journal Histories) → AreAlikeJournals i j → AreAlikeJournals (behind_all ks xs i) (behind_all ks ys j)
both_alike ks [] [] same i j h = h
both_alike ks [] (y ∷ ys) same i j h = absurd cc
both_alike ks (x ∷ xs) [] same i j h = absurd cc
both_alike ks (x ∷ xs) (y ∷ ys) same i j h =
    let one : x.one ≡ y.one = cc in
    let others : records_of xs ≡ records_of ys = cc in
    both_alike ks xs ys others (behind_record histories ks x.more x.one i)
    (behind_record histories ks y.more y.one j)
    (subst (λ (r : Record). AreAlikeJournals (behind_record histories ks x.more x.one i)
    (behind_record histories ks y.more r j)) one ((alike_journals i j h).records ks x.more y.more x.one))

module _ (kind : PdcpKind) (l : ℕ) (now : Group) (past : List Group) where
  -- what is gathered of a journal, behind the first records of a group
  abbrev pub journal_told : List Record → Journal Histories
  journal_told told = flows_in (may_take_by given.histories (now ∷ past)) (first_of now told) past

  -- one that is alike is read up to a moment of a life
  pub record ReadsTo (sent : Flight) (told others : List Record) (a : Air) : Type 0 where
    pub moment : Moment
    pub journal : Journal Histories
    pub alike : AreAlikeJournals (journal_told told) journal
    pub read : IsRead kind l a moment journal
    pub flies : IsFlightOf journal sent
    pub formed : AreFormed (kinds (now ∷ past)) others

module _ (kind : PdcpKind) (l : ℕ) (low : l ≤ 10) (now : Group) (past : List Group)
    (none : submitted_by now.line ≡ None) where
  abbrev ks : List (Option Layout)
  ks = kinds (now ∷ past)

  abbrev To : Flight → List Record → List Record → Air → Type 0
  To sent told others a = ReadsTo kind l now past sent told others a

  -- behind more records
  reads_more : (sent : Flight) (told xs others : List Record) (a : Air) (steps : List AirStep)
      → (h : To sent told (xs ++ others) a) → AreReadTo ks kind l a steps h.moment h.journal xs others
      → To (flight_in xs sent) (told ++ xs) others (lives steps a)
  reads_more sent told xs others a steps h x =
      let r = goes_on_read l low [] now past none told xs in
      let flies : (side : Side) → (sending_of side h.journal).process ≡ process_of side sent
      → (sending_of side (behind_all ks x.reads h.journal)).process ≡ process_of side (flight_in xs sent) =
      λ side is. processes_known ks x.reads side h.journal sent is
      ∙ ap (λ (zs : List Record). process_of side (flight_in zs sent)) x.are in
      record {
        moment = x.last;
        journal = behind_all ks x.reads h.journal;
        alike = subst (λ (i : Journal Histories). AreAlikeJournals i (behind_all ks x.reads h.journal)) (sym r.is)
            (both_alike ks r.reads x.reads (r.are ∙ sym x.are) (journal_told kind l now past told) h.journal h.alike);
        read = x.read;
        flies = record { nb_is = flies Nb h.flies.nb_is; ue_is = flies Ue h.flies.ue_is };
        formed = x.formed;
      }

  module _ (known : slice_index_or ks l None ≡ Some (layouts.Am kind))
      (counts : AllByRecursion (HasCountOn kind l) now.events) where
    more_counts : (told xs others : List Record) → now.events ≡ told ++ (xs ++ others)
        → AllByRecursion (HasCountOn kind l) xs
    more_counts told xs others are =
        front (HasCountOn kind l) xs others
        (rest (HasCountOn kind l) told (xs ++ others) (subst (AllByRecursion (HasCountOn kind l)) are counts))

    -- those of a step, and those that log nothing
    reads_step : (sent : Flight) (told xs others : List Record) (a : Air) (s : Step)
        → now.events ≡ told ++ (xs ++ others) → TellsStep l low [] now past none a s sent xs
        → To sent told (xs ++ others) a → To (flight_in xs sent) (told ++ xs) others (happens a s)
    reads_step sent told xs others a s are tells h =
        reads_more sent told xs others a (InLife s ∷ []) h
        (steps_are_read ks kind l (InLife s ∷ []) a h.moment sent h.journal xs others known (tells.given, tt) tt h.read
        h.flies (tells.logs ∙ sym (append-nil (log_at a (InLife s)))) (more_counts told xs others are) h.formed)

    reads_silent : (sent : Flight) (told xs others : List Record) (a : Air) → now.events ≡ told ++ (xs ++ others)
        → logged sent xs ≡ [] → To sent told (xs ++ others) a → To (flight_in xs sent) (told ++ xs) others a
    reads_silent sent told xs others a are logs h =
        reads_more sent told xs others a [] h
        (steps_are_read ks kind l [] a h.moment sent h.journal xs others known tt tt h.read h.flies logs
        (more_counts told xs others are) h.formed)

    module _ (c : BearerConfig) (config : config_of l (now ∷ past) ≡ Some c) (acked : is_acked_kind c.kind ≡ true)
        (stays : is_handover now.line ≡ false) where
      -- the checker knows the numbers that are acknowledged by the history of the bearer
      reads_know : (sent : Flight) (told others : List Record) (a : Air) → To sent told others a
          → KnowsAcked l low [] now past none told a
      reads_know sent told others a h side before one brings sends =
          let f = follows_at l a h.moment h.read.lived side in
          let es = history side h.moment in
          subst (λ (x : BearerFlow). IsAckedBy x (acked_at side l (giving_before now past (told ++ before) one)))
          (sym f.bearer_is)
          (record {
            most = f.most;
            es = es;
            follows = f.follows;
            acks = λ n.
                acked_behind l low [] now past none c config acked stays told before side one brings sends n
                ∙ ap (λ (p : ℕ → Bool). p n)
                (acked_alike l a h.moment (journal_told kind l now past told) h.journal h.read.gathered h.alike side)
                ∙ sym (acked_kept_is f.most es f.follows.history n);
          })

      pub reads_base : IsBase l low [] now past none (ReadsTo kind l now past)
      reads_base = record { knows = reads_know; one_step = reads_step; silent = reads_silent }

-- ---- behind a group

-- the account that is kept is that of the history that is told
acked_account : (c : BearerConfig) (l : ℕ) (g : Group) (past : List Group) (side : Side) → l ≤ 10
    → config_of l (g ∷ past) ≡ Some c → is_acked_kind c.kind ≡ true
    → account_at side l (all_given given.histories (g ∷ past)).kept.journal.flows
    ≡ Some (lives_of c.tx.max_retx c.first (flows_told (may_take_by given.histories (g ∷ past)) (g ∷ past) side l))
acked_account c l g past side low config acked =
    let may = may_take_by given.histories (g ∷ past) in
    let es = flows_told may (g ∷ past) side l in
    ap (λ (x : OneChannel History). account_at side l x.kept.journal.flows)
    ((one_channel_by_groups History given.histories l [] g past low).behind)
    ∙ account_behind l low may (g ∷ past) side
    ∙ ap (λ (b : Option BearerConfig). account_by b es) (bearer_is l (g ∷ past) ∙ config)
    ∙ ap (λ (b : Bool). if b then Some (lives_of c.tx.max_retx c.first es) else None) acked

pub bases_low : (c : BearerConfig) (l : ℕ) (g : Group) (past : List Group) → is_acked_kind c.kind ≡ true
    → IsReadBehind (may_take_by given.histories (g ∷ past)) c l (g ∷ past) → AreBasesLow l g past
bases_low c l g past acked h side =
    let may = may_take_by given.histories (g ∷ past) in
    let told = flows_told may (g ∷ past) side l in
    let lives : FlowLives = lives_of c.tx.max_retx c.first told in
    let f = follows_at l h.air h.moment h.read.lived side in
    let es = history side h.moment in
    let kept = are_histories told (histories_are_lives may (g ∷ past) side l) in
    let most = c.tx.max_retx in
    let low = base_low (running told) es (account_of most (running told)).sending.base
    (account_of f.most es).sending.base (account_of most (running told)).sending.numbers
    (account_of f.most es).sending.numbers (acks_so most (running told) kept) (acks_so f.most es f.follows.history)
    (acked_alike l h.air h.moment (gathered may (g ∷ past)) h.journal h.read.gathered h.alike side) in
    let own : lives.account.sending.base ≡ (account_of most (running told)).sending.base =
    ap (λ (a : FlowAccount). a.sending.base) (life_account most c.first told) in
    let window = f.follows.window.base in
    subst (IsBaseLow (flow l (end_of side (link_behind (g ∷ past)))))
    (sym (acked_account c l g past side h.low h.is acked))
    (subst (λ (e : End). IsBaseLow (flow l e) (Some lives)) (at_end side (link_behind (g ∷ past)) h.air h.on)
    (subst (λ (x : BearerFlow). IsBaseLow x (Some lives)) (sym f.bearer_is) (omega (arith, low, own, window))))

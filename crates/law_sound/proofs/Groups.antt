-- Group by group, the account of what a journal's PDUs tell and the history that it tells agree.
use Rattle.std.proofs.Common.{◌≡◌, ◌≤◌, ℕ, ◌==◌, Bool, true, false, List, [], ◌∷◌}
use Rattle.std.proofs.Common.{◌++◌, length}
use Rattle.std.proofs.Common.{Option, Some, None, refl, ap, sym, ◌∙◌, subst, if◌then◌else◌}
use Rattle.std.specs.List.{AllByRecursion, filter}
use Rattle.l2_types.specs.declared.channel.Kind.TheVariants as bearers
use Rattle.l2_types.specs.declared.side.Side.{Side}
use Rattle.l2_types.specs.declared.side.Side.TheVariants.{Nb, Ue}
use Rattle.bearer_types.specs.declared.config.BearerConfig.{BearerConfig}
use Rattle.air_record.specs.declared.line.Line.{Line}
use Rattle.air_record.specs.declared.line.Line.TheVariants as lines
use Rattle.air_record.specs.declared.record.Record.{Record}
use Rattle.air_text.specs.Groups.{Group}
use Rattle.pdu_show.specs.declared.kinds.Layout.{Layout}
use Rattle.law_words.specs.Arrivals.{Account, AccountEntry, Renews, no_account, account, renewed}
use Rattle.promises.specs.Air.{ttis}
use Rattle.promises.specs.Arrival.{account_of, entries_from, entries_ended, entries_in}
use Rattle.promises.specs.Blocks.{kinds}
use Rattle.promises.specs.Configs.{config_of}
use Rattle.promises.specs.Names.{SentPdu}
use Rattle.promises.specs.Parts.{is_handover}
use Rattle.promises.specs.RightForm.{HasForm, is_built}
use Rattle.promises.specs.Telling.{LineTells, channels}
use Rattle.journal_form.specs.Checking.{Building}
use Rattle.journal_form.proofs.Units.{complete, Form}
use Rattle.journal_lives.specs.LifeEvents.{LifeEvent}
use Rattle.journal_flows.specs.Gathering.{Journal, Sending, MayTake, nothing_sent, sending_of, behind, behind_line}
use Rattle.journal_flows.specs.Gathering.{behind_records, behind_end, within}
use Rattle.journal_flows.specs.FlowsTold.{Histories, no_events, histories}
use Rattle.journal_flows.specs.Gathering as gathering
use Rattle.promises.specs.Bearers.{IsEarly, BeginsFirst, TellsCount}
use Rattle.promises.specs.OwnPdus.{AreOwn}
use Rattle.law_sound.specs.ComingLaws.{TellsFlows}
use Rattle.law_sound.proofs.SinglePdus.{AreSingle}
use Rattle.law_sound.proofs.Singles.{group_single}
use Rattle.promises.specs.SentNumbers.{AreNumbers, sent_in, sent_since}
use Rattle.law_sound.proofs.Agreeing.{Agrees, agrees_ended}
use Rattle.law_sound.proofs.GroupAir.{blocks_behind, begun, all_sent}
use Rattle.law_sound.proofs.AtOnce.{flown_at_once}
use Rattle.law_sound.proofs.GroupYoung.{ages, all_young, none_under, settled_under}
use Rattle.law_sound.proofs.Numbering.{behind_all, behind_both, numbers_rest}
use Rattle.law_sound.proofs.Flying.{Flying, all_air, AreFlown}
use Rattle.law_sound.proofs.Pending.{Pending, none_pending, pending, settled, after_records, IsUnder, all_soon}
use Rattle.law_sound.proofs.Young.{Ages, none_aged, all_age, AreYoung}
use Rattle.law_sound.proofs.Records.{Walked, AreRead, records_walk, account_both, own_rest, sent_behind}
use Rattle.law_sound.proofs.Records.{after_course, all_course}
use Rattle.law_sound.proofs.Still.{still_entries, still_sent, handover_still}
use Rattle.law_sound.proofs.Telling.{flow}
use Rattle.law_sound.proofs.GroupKinds.{acked_layout}
use Rattle.law_sound.proofs.Walk.{Stands, Course}

-- ---- behind groups

abbrev pub gathered : MayTake → List Group → Journal Histories
gathered may_take past = behind histories no_events may_take past

abbrev pub course : Side → ℕ → List Group → Course
course from l past = record { air = begun from past; pending = pending from l past }

pub record IsBehind (may_take : MayTake) (from : Side) (l : ℕ) (config : BearerConfig) (past : List Group)
    : Type 0 where
  pub stands : Stands from l (account_of config l from past) [] (gathered may_take past).flows
      (sending_of from (gathered may_take past)) [] (course from l past)
  pub next_is : length (account_of config l from past).rlc.fields ≡ behind_all l (sent_since from past) 0
  pub under : IsUnder (pending from l past) (ages from past)

-- ---- as a bearer begins nothing was told

abbrev pub AreSilent : List Group → Type 0
AreSilent past = AllByRecursion IsEarly past

renewed_none : (a : Account) → Agrees a [] → Agrees (renewed a) []
renewed_none a h =
    let k = agrees_ended a [] h in
    record {
      fields = k.fields;
      came = k.came;
      within = tt;
      counts = k.counts;
      sizes = k.sizes;
      ended = k.ended;
    }

line_silent : (line : Line) (a : Account) → Agrees a [] → Agrees (account (entries_ended line) a) []
line_silent (lines.Handover user rrc integrity) a h = renewed_none a h
line_silent line a h = h

pub none_agree : Agrees no_account []
none_agree =
    record { fields = refl; came = refl; within = tt; counts = refl; sizes = refl; ended = λ count. refl }

silent_account : (bits l : ℕ) (from : Side) (past : List Group) → AreSilent past
    → Agrees (account (entries_from bits l from past) no_account) []
silent_account bits l from [] h = none_agree
silent_account bits l from (g ∷ past) h =
    subst (λ (a : Account). Agrees a [])
    (sym (account_both (entries_from bits l from past) (entries_ended g.line ++ entries_in bits l from [] g.events)
    no_account
    ∙ account_both (entries_ended g.line) (entries_in bits l from [] g.events)
    (account (entries_from bits l from past) no_account)))
    (subst (λ (told : List Record). Agrees (account (entries_in bits l from [] told)
    (account (entries_ended g.line) (account (entries_from bits l from past) no_account))) []) (sym h.0.leaves_none)
    (line_silent g.line (account (entries_from bits l from past) no_account) (silent_account bits l from past h.1)))

silent_sent : (from : Side) (past : List Group) → AreSilent past → sent_since from past ≡ []
silent_sent from [] h = refl
silent_sent from (g ∷ past) h =
    ap (λ (told : List Record). (if is_handover g.line then [] else sent_since from past) ++ sent_in from told)
    h.0.leaves_none
    ∙ by (is_handover g.line) (silent_sent from past h.1)
  where
    by : (b : Bool) → sent_since from past ≡ [] → (if b then [] else sent_since from past) ++ [] ≡ []
    by true e = refl
    by false e = ap (λ (ss : List SentPdu). ss ++ []) e

silent_blocks : (from : Side) (past : List Group) → AreSilent past → (p : ℕ) → blocks_behind from past p ≡ None
silent_blocks from [] h p = refl
silent_blocks from (g ∷ past) h p =
    ap (λ (told : List Record). if is_handover g.line then None else (all_air from told (begun from past)).blocks p)
    h.0.leaves_none
    ∙ by (is_handover g.line) (silent_blocks from past h.1 p)
  where
    by : (b : Bool) → blocks_behind from past p ≡ None → (if b then None else blocks_behind from past p) ≡ None
    by true e = refl
    by false e = e

silent_pending : (from : Side) (l : ℕ) (past : List Group) → AreSilent past → pending from l past ≡ none_pending
silent_pending from l [] h = refl
silent_pending from l (g ∷ past) h =
    ap (λ (told : List Record). if is_handover g.line then none_pending
    else settled (after_records from l told (pending from l past))) h.0.leaves_none
    ∙ by (is_handover g.line) (silent_pending from l past h.1)
  where
    by : (b : Bool) → pending from l past ≡ none_pending
        → (if b then none_pending else settled (pending from l past)) ≡ none_pending
    by true e = refl
    by false e = ap settled e

silent_ages : (from : Side) (past : List Group) → AreSilent past → ages from past ≡ none_aged
silent_ages from [] h = refl
silent_ages from (g ∷ past) h =
    ap (λ (told : List Record). if is_handover g.line then none_aged else all_age from told (ages from past))
    h.0.leaves_none
    ∙ by (is_handover g.line) (silent_ages from past h.1)
  where
    by : (b : Bool) → ages from past ≡ none_aged → (if b then none_aged else ages from past) ≡ none_aged
    by true e = refl
    by false e = e

none_named : (from : Side) (l : ℕ) (past : List Group) → (pending from l past).named ≡ 0
none_named from l [] = refl
none_named from l (g ∷ past) = by (is_handover g.line)
  where
    by : (b : Bool)
        → (if b then none_pending else settled (after_records from l g.events (pending from l past))).named ≡ 0
    by true = refl
    by false = refl

sending_none : (from : Side) (hands_over : Bool) (j : Journal Histories) → sending_of from j ≡ nothing_sent
    → sending_of from (behind_end histories hands_over j) ≡ nothing_sent
sending_none Nb true j h = refl
sending_none Ue true j h = refl
sending_none from false j h = h

pub sending_line : (from : Side) (line : Line) (j : Journal Histories)
    → sending_of from (behind_line histories line j) ≡ sending_of from j
sending_line Nb (lines.Bearer config options) j = refl
sending_line Ue (lines.Bearer config options) j = refl
sending_line from line j = refl

pub silent_sending : (may_take : MayTake) (from : Side) (past : List Group) → AreSilent past
    → sending_of from (gathered may_take past) ≡ nothing_sent
silent_sending may_take Nb [] h = refl
silent_sending may_take Ue [] h = refl
silent_sending may_take from (g ∷ past) h =
    sending_none from (gathering.is_handover g.line) (within histories may_take g past (gathered may_take past))
    (ap (λ (told : List Record). sending_of from
    (behind_records histories may_take past (kinds (g ∷ past)) [] told
    (behind_line histories g.line (gathered may_take past))))
    h.0.leaves_none ∙ sending_line from g.line (gathered may_take past) ∙ silent_sending may_take from past h.1)

bearer_flow : (from : Side) (l : ℕ) (config : BearerConfig) (f : Histories) → (config.channel.lcid == l) ≡ true
    → flow from l (histories.begins config f) ≡ []
bearer_flow from l config f e = ap (λ (b : Bool). if b then [] else flow from l f) e

-- a group
abbrev group : ℕ → Line → List Record → Group
group number line events = record { number = number; line = line; events = events }

none_is : {A : Type 0} (x : A) → None ≡ Some x → ⊥
none_is x e = cc

begins_behind : (may_take : MayTake) (from : Side) (l number : ℕ) (config : BearerConfig) (options : _)
    (events : List Record) (past : List Group) → (config.channel.lcid == l) ≡ true → events ≡ [] → AreSilent past
    → IsBehind may_take from l config (group number (lines.Bearer config options) events ∷ past)
begins_behind may_take from l number config options events past here none silent =
    let a : Account = account (entries_from config.pdcp_bits l from past) no_account in
    let agrees = silent_account config.pdcp_bits l from past silent in
    let all = account_both (entries_from config.pdcp_bits l from past) (entries_in config.pdcp_bits l from [] events)
    no_account in
    subst (λ (told : List Record).
    IsBehind may_take from l config (group number (lines.Bearer config options) told ∷ past)) (sym none)
    (record {
      stands = subst (λ (s : Sending). Stands from l
          (account_of config l from (group number (lines.Bearer config options) [] ∷ past)) []
          (gathered may_take (group number (lines.Bearer config options) [] ∷ past)).flows s []
          (course from l (group number (lines.Bearer config options) [] ∷ past)))
          (sym (sending_line from (lines.Bearer config options) (gathered may_take past)
          ∙ silent_sending may_take from past silent))
          (record {
            agrees =
                subst (λ (es : List LifeEvent).
                Agrees (account_of config l from (group number (lines.Bearer config options) [] ∷ past)) es)
                (sym (bearer_flow from l config (gathered may_take past).flows here))
                (subst (λ (x : Account). Agrees x [])
                (sym (account_both (entries_from config.pdcp_bits l from past) [] no_account)) agrees);
            named_is = refl;
            new_are = refl;
            size = refl;
            held = λ p octets low e.
                absurd (none_is octets (sym (silent_blocks from past silent p) ∙ e));
            last = tt;
          });
      next_is =
          ap (λ (x : Account). length x.rlc.fields)
          (account_both (entries_from config.pdcp_bits l from past) [] no_account)
          ∙ ap (length {A = ℕ}) agrees.fields
          ∙ sym (ap (λ (ss : List SentPdu). behind_all l (ss ++ []) 0) (silent_sent from past silent));
      under =
          subst (λ (y : Ages). IsUnder (settled (pending from l past)) y) (sym (silent_ages from past silent))
          (subst (λ (x : Pending). IsUnder (settled x) none_aged) (sym (silent_pending from l past silent))
          (settled_under none_pending none_aged none_under));
    })

-- ---- the records of a group

pub record GroupHolds (may_take : MayTake) (from : Side) (l : ℕ) (g : Group) (past : List Group) : Type 0 where
  pub form : HasForm (kinds (g ∷ past)) g.events
  pub flown : AreFlown from g.events (begun from past)
  pub tells : LineTells (ttis past) (kinds past) (λ side. channels past) g.line g.events
  pub first : BeginsFirst g.line past
  pub counts : (config : BearerConfig) → config_of l (g ∷ past) ≡ Some config → config.kind ≡ bearers.Am
      → AllByRecursion (TellsCount l) g.events
  pub numbers : (config : BearerConfig) → config_of l (g ∷ past) ≡ Some config → config.kind ≡ bearers.Am
      → AreNumbers l 0 (sent_since from (g ∷ past))
  pub single : AreSingle from l g.events 0
  pub young : AreYoung from g.events (ages from past)
  pub own : (config : BearerConfig) → config_of l (g ∷ past) ≡ Some config → config.kind ≡ bearers.Am
      → AreOwn no_account (entries_from config.pdcp_bits l from (g ∷ past))

form_of : (from : Side) (ks : List (Option Layout)) (told : List Record) → HasForm ks told
    → Form from ks (filter (is_built from) told)
form_of Nb ks told h = h.down
form_of Ue ks told h = h.up

-- nothing is sent yet
abbrev pub none_built : Building
none_built = record { sent = []; right = true }

abbrev GroupWalks : MayTake → Side → ℕ → BearerConfig → Group → List Group → Account → Type 0
GroupWalks may_take from l config g past a =
    Walked from l (behind_all l (sent_in from g.events) (length a.rlc.fields))
    (account (entries_in config.pdcp_bits l from [] g.events) a) (sent_behind g.events [])
    (within histories may_take g past (gathered may_take past)).flows
    (sending_of from (within histories may_take g past (gathered may_take past)))
    (all_course from l g.events (course from l past))

-- they may be read
pub group_reads : (may_take : MayTake) (from : Side) (l : ℕ) (config : BearerConfig) (g : Group) (past : List Group)
    (a : Account) → config.kind ≡ bearers.Am → config_of l (g ∷ past) ≡ Some config
    → GroupHolds may_take from l g past → IsUnder (pending from l past) (ages from past)
    → AreNumbers l (length a.rlc.fields) (sent_in from g.events)
    → AreOwn a (entries_in config.pdcp_bits l from [] g.events)
    → AreRead from l config.pdcp_bits (kinds (g ∷ past)) g.events a [] none_built (course from l past)
group_reads may_take from l config g past a kind is h under numbers own =
    let single = subst (λ (n : ℕ). AreSingle from l g.events n) (sym (none_named from l past))
    h.single in
    let ks = kinds (g ∷ past) in
    record {
      flown = h.flown;
      soon = (all_soon from l g.events (pending from l past) (ages from past) single under h.young).soon;
      counts = h.counts config is kind;
      right = complete from ks g.events none_built refl (form_of from ks g.events h.form);
      numbers = numbers;
      own = own;
    }

group_walks : (may_take : MayTake) (from : Side) (l : ℕ) (config : BearerConfig) (g : Group) (past : List Group)
    (a : Account) → l ≤ 10 → config.kind ≡ bearers.Am → config_of l (g ∷ past) ≡ Some config
    → GroupHolds may_take from l g past → IsUnder (pending from l past) (ages from past)
    → Stands from l a [] (behind_line histories g.line (gathered may_take past)).flows
    (sending_of from (behind_line histories g.line (gathered may_take past))) [] (course from l past)
    → AreNumbers l (length a.rlc.fields) (sent_in from g.events)
    → AreOwn a (entries_in config.pdcp_bits l from [] g.events) → GroupWalks may_take from l config g past a
group_walks may_take from l config g past a low kind is h under stands numbers own =
    records_walk from l config.pdcp_bits (kinds (g ∷ past)) may_take past g.events [] a []
    (behind_line histories g.line (gathered may_take past)) none_built (course from l past)
    (acked_layout (g ∷ past) l config low is kind) stands
    (group_reads may_take from l config g past a kind is h under numbers own)

-- what flies, and what is told of it, record by record
pub course_air : (from : Side) (l : ℕ) (told : List Record) (x : Course)
    → (all_course from l told x).air ≡ all_air from told x.air
course_air from l [] x = refl
course_air from l (one ∷ told) x = course_air from l told (after_course from l one x)

pub course_pending : (from : Side) (l : ℕ) (told : List Record) (x : Course)
    → (all_course from l told x).pending ≡ after_records from l told x.pending
course_pending from l [] x = refl
course_pending from l (one ∷ told) x = course_pending from l told (after_course from l one x)

-- ---- and its end

stands_on : (from : Side) (l : ℕ) (a : Account) (sent : List ℕ) (f : Histories) (s : Sending) (x : Course)
    (past : List Group) → ((p : ℕ) → blocks_behind from past p ≡ x.air.blocks p)
    → pending from l past ≡ settled x.pending → Stands from l a sent f s [] x
    → Stands from l a [] f s [] (course from l past)
stands_on from l a sent f s x past same due h =
    subst (λ (y : Pending). Stands from l a [] f s [] (record { air = begun from past; pending = y })) (sym due)
    (record {
      agrees = h.agrees;
      named_is = h.named_is;
      new_are = refl;
      size = h.size;
      held = λ p octets low e. h.held p octets low (sym (same p) ∙ e);
      last = tt;
    })

-- a line that is neither of a handover nor of the channel's bearer
pub record IsPlain (l : ℕ) (line : Line) : Type 0 where
  pub stays : is_handover line ≡ false
  pub stays_there : gathering.is_handover line ≡ false
  pub none_ended : entries_ended line ≡ []

-- with the account as it is made
record StandsAt (may_take : MayTake) (from : Side) (l : ℕ) (g : Group) (past : List Group) (a : Account) : Type 0 where
  stands : Stands from l a [] (gathered may_take (g ∷ past)).flows (sending_of from (gathered may_take (g ∷ past))) []
      (course from l (g ∷ past))
  next_is : length a.rlc.fields ≡ behind_all l (sent_since from (g ∷ past)) 0
  under : IsUnder (pending from l (g ∷ past)) (ages from (g ∷ past))

at_account : (may_take : MayTake) (from : Side) (l : ℕ) (config : BearerConfig) (g : Group) (past : List Group)
    (a : Account) → a ≡ account_of config l from (g ∷ past) → StandsAt may_take from l g past a
    → IsBehind may_take from l config (g ∷ past)
at_account may_take from l config g past a is h =
    let k = subst (λ (x : Account). StandsAt may_take from l g past x) is h in
    record { stands = k.stands; next_is = k.next_is; under = k.under }

group_under : (from : Side) (l : ℕ) (g : Group) (past : List Group) → is_handover g.line ≡ false
    → IsUnder (after_records from l g.events (pending from l past)) (all_age from g.events (ages from past))
    → IsUnder (pending from l (g ∷ past)) (ages from (g ∷ past))
group_under from l g past stays h =
    subst (λ (b : Bool). IsUnder
    (if b then none_pending else settled (after_records from l g.events (pending from l past)))
    (if b then none_aged else all_age from g.events (ages from past))) (sym stays)
    (settled_under (after_records from l g.events (pending from l past)) (all_age from g.events (ages from past)) h)

-- what stands as its group begins
pub record Begins (may_take : MayTake) (from : Side) (l : ℕ) (config : BearerConfig) (g : Group) (past : List Group)
    : Type 0 where
  pub stands : Stands from l (account_of config l from past) []
      (behind_line histories g.line (gathered may_take past)).flows
      (sending_of from (behind_line histories g.line (gathered may_take past))) [] (course from l past)
  pub since : sent_since from (g ∷ past) ≡ sent_since from past ++ sent_in from g.events
  pub numbers : AreNumbers l (length (account_of config l from past).rlc.fields) (sent_in from g.events)
  pub own : AreOwn (account_of config l from past) (entries_in config.pdcp_bits l from [] g.events)

pub plain_begins : (may_take : MayTake) (from : Side) (l : ℕ) (config : BearerConfig) (g : Group) (past : List Group)
    → config.kind ≡ bearers.Am → config_of l (g ∷ past) ≡ Some config → GroupHolds may_take from l g past
    → IsPlain l g.line
    → flow from l (behind_line histories g.line (gathered may_take past)).flows
    ≡ flow from l (gathered may_take past).flows
    → IsBehind may_take from l config past → Begins may_take from l config g past
plain_begins may_take from l config g past kind is h plain same before =
    let since : sent_since from (g ∷ past) ≡ sent_since from past ++ sent_in from g.events =
    ap (λ (b : Bool). (if b then [] else sent_since from past) ++ sent_in from g.events) plain.stays in
    record {
      stands = subst (λ (s : Sending). Stands from l (account_of config l from past) []
          (behind_line histories g.line (gathered may_take past)).flows s [] (course from l past))
          (sym (sending_line from g.line (gathered may_take past)))
          (record {
            agrees = subst (λ (es : List LifeEvent). Agrees (account_of config l from past) es) (sym same)
                before.stands.agrees;
            named_is = before.stands.named_is;
            new_are = before.stands.new_are;
            size = before.stands.size;
            held = before.stands.held;
            last = tt;
          });
      since = since;
      numbers = subst (λ (n : ℕ). AreNumbers l n (sent_in from g.events)) (sym before.next_is)
          (numbers_rest l 0 (sent_since from past) (sent_in from g.events)
          (subst (λ (ss : List SentPdu). AreNumbers l 0 ss) since (h.numbers config is kind)));
      own = subst (λ (hs : List AccountEntry).
          AreOwn (account_of config l from past) (hs ++ entries_in config.pdcp_bits l from [] g.events))
          plain.none_ended
          (own_rest no_account (entries_from config.pdcp_bits l from past)
          (entries_ended g.line ++ entries_in config.pdcp_bits l from [] g.events) (h.own config is kind));
    }

plain_behind : (may_take : MayTake) (from : Side) (l : ℕ) (config : BearerConfig) (g : Group) (past : List Group)
    → l ≤ 10 → config.kind ≡ bearers.Am → config_of l (g ∷ past) ≡ Some config → GroupHolds may_take from l g past
    → IsPlain l g.line
    → flow from l (behind_line histories g.line (gathered may_take past)).flows
    ≡ flow from l (gathered may_take past).flows
    → IsBehind may_take from l config past → IsBehind may_take from l config (g ∷ past)
plain_behind may_take from l config g past low kind is h plain same before =
    let a : Account = account_of config l from past in
    let j : Journal Histories = within histories may_take g past (gathered may_take past) in
    let begins = plain_begins may_take from l config g past kind is h plain same before in
    let since = begins.since in
    let w = group_walks may_take from l config g past a low kind is h before.under begins.stands begins.numbers
    begins.own in
    let account_is : account (entries_in config.pdcp_bits l from [] g.events) (account_of config l from past)
    ≡ account_of config l from (g ∷ past) =
    sym (account_both (entries_from config.pdcp_bits l from past)
    (entries_ended g.line ++ entries_in config.pdcp_bits l from [] g.events) no_account
    ∙ ap (λ (hs : List AccountEntry). account (hs ++ entries_in config.pdcp_bits l from [] g.events)
    (account_of config l from past)) plain.none_ended) in
    at_account may_take from l config g past _ account_is
    (record {
      stands = subst (λ (b : Bool). Stands from l
          (account (entries_in config.pdcp_bits l from [] g.events) (account_of config l from past)) []
          (behind_end histories b (within histories may_take g past (gathered may_take past))).flows
          (sending_of from (behind_end histories b (within histories may_take g past (gathered may_take past)))) []
          (course from l (g ∷ past))) (sym plain.stays_there)
          (stands_on from l _ _ j.flows (sending_of from j) (all_course from l g.events (course from l past)) (g ∷ past)
          (λ p. ap (λ (b : Bool). if b then None else (all_air from g.events (begun from past)).blocks p) plain.stays
          ∙ ap (λ (y : Flying). y.blocks p) (sym (course_air from l g.events (course from l past))))
          (ap (λ (b : Bool). if b then none_pending
          else settled (after_records from l g.events (pending from l past))) plain.stays
          ∙ ap settled (sym (course_pending from l g.events (course from l past))))
          w.stands);
      next_is =
          w.next_is
          ∙ ap (behind_all l (sent_in from g.events)) before.next_is
          ∙ sym (behind_both l (sent_since from past) (sent_in from g.events) 0)
          ∙ ap (λ (ss : List SentPdu). behind_all l ss 0) (sym since);
      under = group_under from l g past plain.stays (all_soon from l g.events (pending from l past) (ages from past)
          (subst (λ (n : ℕ). AreSingle from l g.events n) (sym (none_named from l past)) h.single)
          before.under h.young).under;
    })

-- a handover ends a life
handover_behind : (may_take : MayTake) (from : Side) (l number : ℕ) (user : _) (rrc : _) (integrity : _)
    (events : List Record) (config : BearerConfig) (past : List Group) → l ≤ 10 → config.kind ≡ bearers.Am
    → config_of l past ≡ Some config
    → GroupHolds may_take from l (group number (lines.Handover user rrc integrity) events) past
    → IsBehind may_take from l config past
    → IsBehind may_take from l config (group number (lines.Handover user rrc integrity) events ∷ past)
handover_behind may_take from l number user rrc integrity events config past low kind is h before =
    let g : Group = group number (lines.Handover user rrc integrity) events in
    let still = handover_still (λ side. channels past) events h.tells in
    let none = still_entries config.pdcp_bits l from events [] still in
    let silent = still_sent from events still in
    let a : Account = account_of config l from past in
    let w = group_walks may_take from l config g past a low kind is h before.under before.stands
    (subst (λ (ss : List SentPdu). AreNumbers l (length (account_of config l from past).rlc.fields) ss) (sym silent) tt)
    (subst (λ (hs : List AccountEntry). AreOwn (account_of config l from past) hs) (sym none) tt) in
    let agrees : Agrees (account_of config l from past)
    (flow from l (within histories may_take (group number (lines.Handover user rrc integrity) events) past
    (gathered may_take past)).flows) = subst (λ (hs : List AccountEntry).
    Agrees (account hs (account_of config l from past))
    (flow from l (within histories may_take (group number (lines.Handover user rrc integrity) events) past
    (gathered may_take past)).flows)) none w.stands.agrees in
    at_account may_take from l config g past (renewed (account_of config l from past))
    (sym (account_both (entries_from config.pdcp_bits l from past)
    (Renews ∷ entries_in config.pdcp_bits l from [] events) no_account
    ∙ ap (λ (hs : List AccountEntry). account hs (renewed (account_of config l from past))) none))
    (ended_stands from may_take a agrees silent)
  where
    ended_stands : (from : Side) (may_take : MayTake) (a : Account)
        → Agrees a (flow from l (within histories may_take (group number (lines.Handover user rrc integrity) events)
        past (gathered may_take past)).flows) → sent_in from events ≡ []
        → StandsAt may_take from l (group number (lines.Handover user rrc integrity) events) past (renewed a)
    ended_stands Nb may_take a agrees silent = record {
      stands = record {
        agrees = agrees_ended a _ agrees;
        named_is = refl;
        new_are = refl;
        size = refl;
        held = λ p octets low e. absurd (none_is octets e);
        last = tt;
      };
      next_is = ap (λ (ss : List SentPdu). behind_all l ss 0) (sym silent);
      under = none_under;
    }
    ended_stands Ue may_take a agrees silent = record {
      stands = record {
        agrees = agrees_ended a _ agrees;
        named_is = refl;
        new_are = refl;
        size = refl;
        held = λ p octets low e. absurd (none_is octets e);
        last = tt;
      };
      next_is = ap (λ (ss : List SentPdu). behind_all l ss 0) (sym silent);
      under = none_under;
    }

-- ---- group by group

pub other_flow : (from : Side) (l : ℕ) (config : BearerConfig) (f : Histories) → (config.channel.lcid == l) ≡ false
    → flow from l (histories.begins config f) ≡ flow from l f
other_flow from l config f e = ap (λ (b : Bool). if b then [] else flow from l f) e

some_same : (c config : BearerConfig) → Some c ≡ Some config → c ≡ config
some_same c config e = cc

abbrev Behind : MayTake → Side → ℕ → List Group → Type 0
Behind may_take from l past =
    (config : BearerConfig) → config_of l past ≡ Some config → config.kind ≡ bearers.Am
    → IsBehind may_take from l config past

bearer_behind : (may_take : MayTake) (from : Side) (l number : ℕ) (c : BearerConfig) (options : _)
    (events : List Record) (past : List Group) → l ≤ 10
    → GroupHolds may_take from l (group number (lines.Bearer c options) events) past → Behind may_take from l past
    → Behind may_take from l (group number (lines.Bearer c options) events ∷ past)
bearer_behind may_take from l number c options events past low h before config is kind =
    by (c.channel.lcid == l) refl is
  where
    by : (b : Bool) → (c.channel.lcid == l) ≡ b → (if b then Some c else config_of l past) ≡ Some config
        → IsBehind may_take from l config (group number (lines.Bearer c options) events ∷ past)
    by true e known =
        subst (λ (x : BearerConfig). IsBehind may_take from l x (group number (lines.Bearer c options) events ∷ past))
        (some_same c config known)
        (begins_behind may_take from l number c options events past e h.tells h.first.early)
    by false e known =
        plain_behind may_take from l config (group number (lines.Bearer c options) events) past low kind is h
        (record { stays = refl; stays_there = refl; none_ended = refl })
        (other_flow from l c (gathered may_take past).flows e) (before config known kind)

group_behind : (may_take : MayTake) (from : Side) (l number : ℕ) (line : Line) (events : List Record)
    (past : List Group) → l ≤ 10 → GroupHolds may_take from l (group number line events) past
    → Behind may_take from l past → Behind may_take from l (group number line events ∷ past)
group_behind may_take from l number (lines.Bearer c options) events past low h before =
    bearer_behind may_take from l number c options events past low h before
group_behind may_take from l number (lines.Handover user rrc integrity) events past low h before =
    λ config is kind. handover_behind may_take from l number user rrc integrity events config past low kind is h
    (before config is kind)
group_behind may_take from l number line events past low h before =
    λ config is kind. plain_behind may_take from l config (group number line events) past low kind is h
    (record { stays = refl; stays_there = refl; none_ended = refl }) refl (before config is kind)

-- it was so before the newest group
pub tells_before : (g : Group) (past : List Group) → TellsFlows (g ∷ past) → TellsFlows past
tells_before g past h = record {
  form = h.form.1;
  air = h.air.1;
  order = h.order.1;
  bearers = h.bearers.1;
  counts = h.counts.1;
  numbers = h.numbers.1;
  own = h.own.1;
  few = h.few.1;
}

pub group_holds : (may_take : MayTake) (from : Side) (l : ℕ) (g : Group) (past : List Group) → TellsFlows (g ∷ past)
    → GroupHolds may_take from l g past
group_holds may_take from l g past h = record {
  form = h.form.0;
  flown = flown_at_once from g past (begun from past) h.order (all_sent from g past h.air);
  tells = h.order.0;
  first = h.bearers.0;
  counts = λ config is kind. h.counts.0 l config is kind;
  numbers = λ config is kind. h.numbers.0 from l config is kind;
  single = group_single from l g past h.order;
  young = all_young from g past h.air h.few;
  own = λ config is kind. h.own.0 from l config is kind;
}

pub all_behind : (may_take : MayTake) (from : Side) (l : ℕ) (past : List Group) → l ≤ 10 → TellsFlows past
    → Behind may_take from l past
all_behind may_take from l [] low h = λ config is kind. absurd (none_is config is)
all_behind may_take from l (g ∷ past) low h =
    group_behind may_take from l g.number g.line g.events past low (group_holds may_take from l g past h)
    (all_behind may_take from l past low (tells_before g past h))

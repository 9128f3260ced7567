-- Of one sender: its limits are those of the histories, and a group is judged right just when it is.
use Rattle.std.proofs.Common.{◌≡◌, ℕ, ◌≤◌, Bool, true, false, List, [], ◌∷◌, ◌++◌, length, Option, Some, None, inl}
use Rattle.std.proofs.Common.{refl, ap, sym, ◌∙◌, if◌then◌else◌}
use Rattle.std.specs.Prelude.{MatchOption, is_some, ◌||◌, ◌&&◌, not, ◌==◌}
use Rattle.std.specs.List.{filter}
use Rattle.std.proofs.lemmas.Bool.{or_right}
use Rattle.l2_types.specs.declared.side.Side.{Side}
use Rattle.l2_types.specs.declared.side.Side.TheVariants.{Nb, Ue}
use Rattle.bearer_types.specs.declared.config.BearerConfig.{BearerConfig}
use Rattle.bearer_types.specs.declared.event.Event.{Event}
use Rattle.air_record.specs.declared.line.Line.{Line}
use Rattle.air_record.specs.declared.line.Line.TheVariants as lines
use Rattle.air_text.specs.Groups.{Group}
use Rattle.promises.specs.Configs.{config_by}
use Rattle.promises.specs.Events.{told_on, fails_on}
use Rattle.promises.specs.Parts.{is_handover as ends_life}
use Rattle.promises.specs.Silent.{is_of_sender, behind_failure}
use Rattle.journal_lives.specs.FlowLives.{lives_of}
use Rattle.journal_lives.specs.LifeEvents.{LifeEvent, LifeEnded, running, AreLives}
use Rattle.journal_flows.specs.Gathering.{Journal, MayTake, behind_line, behind_end, within, behind, is_handover}
use Rattle.journal_flows.specs.FlowsTold.{Histories, histories, no_events, flows_told, flows_within}
use Rattle.journal_flows.specs.Accounts.{is_acked_kind, kept_within, all_kept}
use Rattle.journal_flows.specs.Laws.{bearer_on, bearer_by, account_by}
use Rattle.journal_flows.proofs.Groups.{flows_are_told, histories_are_lives}
use Rattle.journal_failure.specs.declared.sender.Sender.{Sender}
use Rattle.journal_failure.specs.RightFailure.{AreFailsOf, most_by}
use Rattle.journal_failure.specs.Checking.{Checking, sn_due, limit_of, limit_at, with_end, with_bearer}
use Rattle.journal_failure.specs.Checking.{is_sender_right, after_line, changed}
use Rattle.journal_failure.proofs.Failures.{limit_is, sns_of, due_sound, due_complete}
use Rattle.journal_failure.proofs.Hearing.{all_heard, gave_in, loud, gave_is, spoke_is, gave_append, loud_append}
use Rattle.journal_failure.proofs.Hearing.{Told, silent_sound, silent_complete, told_all, leaves_all, sender_sound}
use Rattle.journal_failure.proofs.Hearing.{sender_complete}
use Rattle.journal_failure.proofs.Records.{sender_at, Sizes, changed_at, changed_sizes}

-- ---- limits are those of the histories

abbrev pub limit_by : Option BearerConfig → List LifeEvent → Option ℕ
limit_by bearer es = limit_of (account_by bearer es)

none_first : (bearer : Option BearerConfig) → limit_by bearer [] ≡ None
none_first None = refl
none_first (Some config) = by (is_acked_kind config.kind) refl
  where
    by : (b : Bool) → is_acked_kind config.kind ≡ b → limit_by (Some config) [] ≡ None
    by true is = cc
    by false is = cc

none_ended : (bearer : Option BearerConfig) (es : List LifeEvent) → limit_by bearer (LifeEnded ∷ es) ≡ None
none_ended None es = refl
none_ended (Some config) es = by (is_acked_kind config.kind) refl
  where
    by : (b : Bool) → is_acked_kind config.kind ≡ b → limit_by (Some config) (LifeEnded ∷ es) ≡ None
    by true is = cc
    by false is = cc

abbrev FailsBy : Option ℕ → List LifeEvent → List LifeEvent → List ℕ → Type 0
FailsBy most before now sns =
    MatchOption most (sns ≡ []) (λ most. AreFailsOf most (running before) (running now) sns)

abbrev due_by : Option BearerConfig → List LifeEvent → List LifeEvent → List ℕ
due_by bearer before now = sns_of (sn_due (is_some (limit_by bearer before)) (limit_by bearer now))

pub fails_sound : (bearer : Option BearerConfig) (before now : List LifeEvent) → AreLives before → AreLives now
    → (sns : List ℕ) → sns ≡ due_by bearer before now → FailsBy (most_by bearer) before now sns
fails_sound None before now b n sns e = e
fails_sound (Some config) before now b n sns e = by (is_acked_kind config.kind) e
  where
    by : (k : Bool)
        → sns ≡ sns_of (sn_due (is_some (limit_of (if k
        then Some (lives_of config.tx.max_retx config.first before) else None)))
        (limit_of (if k
        then Some (lives_of config.tx.max_retx config.first now) else None)))
        → FailsBy (if k then Some config.tx.max_retx else None) before now sns
    by true h = due_sound config.tx.max_retx (running before) (running now)
        (lives_of config.tx.max_retx config.first before).account.sending.limit
        (lives_of config.tx.max_retx config.first now).account.sending.limit
        (limit_is config.tx.max_retx config.first before b)
        (limit_is config.tx.max_retx config.first now n) sns h
    by false h = h

pub fails_complete : (bearer : Option BearerConfig) (before now : List LifeEvent) → AreLives before → AreLives now
    → (sns : List ℕ) → FailsBy (most_by bearer) before now sns → sns ≡ due_by bearer before now
fails_complete None before now b n sns h = h
fails_complete (Some config) before now b n sns h = by (is_acked_kind config.kind) h
  where
    by : (k : Bool) → FailsBy (if k then Some config.tx.max_retx else None) before now sns
        → sns ≡ sns_of (sn_due (is_some (limit_of (if k
        then Some (lives_of config.tx.max_retx config.first before) else None)))
        (limit_of (if k
        then Some (lives_of config.tx.max_retx config.first now) else None)))
    by true h = due_complete config.tx.max_retx (running before) (running now)
        (lives_of config.tx.max_retx config.first before).account.sending.limit
        (lives_of config.tx.max_retx config.first now).account.sending.limit
        (limit_is config.tx.max_retx config.first before b)
        (limit_is config.tx.max_retx config.first now n) sns h
    by false h = h

-- ---- histories behind the records of a group

pub lives_within : (may_take : MayTake) (now : Group) (past : List Group) (side : Side) (l : ℕ)
    → AreLives (flows_within may_take now past side l)
lives_within may_take now past side l =
    by (is_handover now.line) (within histories may_take now past (behind histories no_events may_take past))
    (histories_are_lives may_take (now ∷ past) side l)
  where
    by : (b : Bool) (j : Journal Histories) → AreLives ((behind_end histories b j).flows.acked side l)
        → AreLives (j.flows.acked side l)
    by true j h = h.1
    by false j h = h

-- ---- limits, as groups go by

pub limit_within : (may_take : MayTake) (now : Group) (past : List Group) (side : Side) (l : ℕ) → l ≤ 10
    → limit_at side (kept_within may_take now past (all_kept may_take past)) l
    ≡ limit_by (bearer_on l (now ∷ past)) (flows_within may_take now past side l)
limit_within may_take now past side l low = ap limit_of ((flows_are_told may_take past side l low).within now)

pub limit_behind : (may_take : MayTake) (past : List Group) (side : Side) (l : ℕ) → l ≤ 10
    → limit_at side (all_kept may_take past) l ≡ limit_by (bearer_on l past) (flows_told may_take past side l)
limit_behind may_take past side l low = ap limit_of (flows_are_told may_take past side l low).behind

pub limit_end : (may_take : MayTake) (now : Group) (past : List Group) (side : Side) (l : ℕ) → l ≤ 10
    → is_some (limit_at side (all_kept may_take (now ∷ past)) l)
    ≡ (not (ends_life now.line)
    && is_some (limit_at side (kept_within may_take now past (all_kept may_take past)) l))
limit_end may_take now past side l low =
    ap (λ (o : Option ℕ). is_some o) (limit_behind may_take (now ∷ past) side l low)
    ∙ by now.line (bearer_on l (now ∷ past))
    (within histories may_take now past (behind histories no_events may_take past))
    ∙ ap (λ (o : Option ℕ). not (ends_life now.line) && is_some o) (sym (limit_within may_take now past side l low))
  where
    by : (line : Line) (bearer : Option BearerConfig) (j : Journal Histories)
        → is_some (limit_by bearer ((behind_end histories (is_handover line) j).flows.acked side l))
        ≡ (not (ends_life line) && is_some (limit_by bearer (j.flows.acked side l)))
    by (lines.Handover user rrc integrity) bearer j =
        ap (λ (o : Option ℕ). is_some o) (none_ended bearer (j.flows.acked side l))
    by line bearer j = refl

-- ---- a sender between groups

pub record AtRest (x : Sender) (failed : Bool) (told : List Event) (known : Bool) : Type 0 where
  pub failed_is : x.failed ≡ failed
  pub told_is : x.told ≡ None
  pub once : x.twice ≡ false
  pub gave : x.gave_up ≡ gave_in false told
  pub spoke : x.spoke ≡ loud false told
  pub known_is : x.known ≡ known
  pub rests : x.begins ≡ false

-- and behind the line of a group
pub record AtLine (x : Sender) (failed : Bool) (told : List Event) (known next : Bool) : Type 0 where
  failed_is : x.failed ≡ failed
  told_is : x.told ≡ None
  once : x.twice ≡ false
  gave : x.gave_up ≡ gave_in false told
  spoke : x.spoke ≡ loud false told
  known_is : x.known ≡ known
  next_is : (x.known || x.begins) ≡ next

abbrev pub begins_on : ℕ → Line → Bool
begins_on l (lines.Bearer config options) = config.channel.lcid == l
begins_on l line = false

pub line_limit : (line : Line) (bearer : Option BearerConfig) (j : Journal Histories) (side : Side) (l : ℕ)
    → is_some (limit_by (bearer_by line l bearer)
    ((behind_line histories line j).flows.acked side l))
    ≡ (if begins_on l line then false else is_some (limit_by bearer (j.flows.acked side l)))
line_limit (lines.Bearer config options) bearer j side l = by (config.channel.lcid == l)
  where
    by : (b : Bool) → is_some (limit_by (if b then Some config else bearer) (if b then [] else j.flows.acked side l))
        ≡ (if b then false else is_some (limit_by bearer (j.flows.acked side l)))
    by true = ap (λ (o : Option ℕ). is_some o) (none_first (Some config))
    by false = refl
line_limit line bearer j side l = refl

pub line_known : (line : Line) (before : Option BearerConfig) (l : ℕ)
    → is_some (config_by l line before) ≡ (if begins_on l line then true else is_some before)
line_known (lines.Bearer config options) before l = by (config.channel.lcid == l)
  where
    by : (b : Bool) → is_some (if b then Some config else before) ≡ (if b then true else is_some before)
    by true = refl
    by false = refl
line_known line before l = refl

pub line_at : (side : Side) (line : Line) (l : ℕ) (c : Checking) → Sizes c → l ≤ 10
    → sender_at side l (after_line line c)
    ≡ (if begins_on l line then with_bearer (sender_at side l c) else sender_at side l c)
line_at Nb (lines.Bearer config options) l c size low =
    changed_at Nb Nb config.channel.lcid l with_bearer c size low
line_at Ue (lines.Bearer config options) l c size low =
    changed_at Ue Ue config.channel.lcid l with_bearer (changed Nb config.channel.lcid with_bearer c)
    (changed_sizes Nb config.channel.lcid with_bearer c size) low
line_at Nb line l c size low = refl
line_at Ue line l c size low = refl

pub line_sizes : (line : Line) (c : Checking) → Sizes c → Sizes (after_line line c)
line_sizes line c size Nb = by line
  where
    by : (line : Line) → length (after_line line c).nb ≡ 11
    by (lines.Bearer config options) =
        changed_sizes Nb config.channel.lcid with_bearer c size Nb
    by line = size Nb
line_sizes line c size Ue = by line
  where
    by : (line : Line) → length (after_line line c).ue ≡ 11
    by (lines.Bearer config options) =
        changed_sizes Ue config.channel.lcid with_bearer (changed Nb config.channel.lcid with_bearer c)
        (changed_sizes Nb config.channel.lcid with_bearer c size) Ue
    by line = size Ue

pub line_right : (line : Line) (c : Checking) → (after_line line c).right ≡ c.right
line_right (lines.Bearer config options) c = refl
line_right line c = refl

or_none : (b : Bool) → (b || false) ≡ b
or_none true = refl
or_none false = refl

pub at_line : (b : Bool) (x : Sender) (failed : Bool) (told : List Event) (known : Bool) → AtRest x failed told known
    → AtLine (if b then with_bearer x else x) (if b then false else failed) told known (if b then true else known)
at_line true x failed told known r = record {
  failed_is = refl;
  told_is = r.told_is;
  once = r.once;
  gave = r.gave;
  spoke = r.spoke;
  known_is = r.known_is;
  next_is = or_right x.known true refl;
}
at_line false x failed told known r = record {
  failed_is = r.failed_is;
  told_is = r.told_is;
  once = r.once;
  gave = r.gave;
  spoke = r.spoke;
  known_is = r.known_is;
  next_is = ap (λ (b : Bool). x.known || b) r.rests ∙ or_none x.known ∙ r.known_is;
}

-- ---- a group, of one sender

abbrev pub IsQuiet : List Event → Type 0
IsQuiet told = filter is_of_sender (behind_failure told) ≡ []

pub record IsGroupRight (failed known : Bool) (limit : Option ℕ) (told : List Event) (l : ℕ) (es : List Event)
    : Type 0 where
  pub due : fails_on l es ≡ sns_of (sn_due failed limit)
  pub silent : known ≡ true → IsQuiet (told ++ told_on l es)

spoke_behind : (l : ℕ) (es : List Event) (y : Sender) (failed : Bool) (told : List Event) (known next : Bool)
    → AtLine y failed told known next → (all_heard l es y).spoke ≡ loud false (told ++ told_on l es)
spoke_behind l es y failed told known next a =
    spoke_is l es y ∙ ap (λ (b : Bool). b || loud y.gave_up (told_on l es)) a.spoke
    ∙ ap (λ (g : Bool). loud false told || loud g (told_on l es)) a.gave
    ∙ sym (loud_append false told (told_on l es))

told_behind : (l : ℕ) (es : List Event) (y : Sender) (failed : Bool) (told : List Event) (known next : Bool)
    → AtLine y failed told known next → Told (all_heard l es y) (fails_on l es)
told_behind l es y failed told known next a =
    told_all l es y [] (inl (a.once, ap sns_of (sym a.told_is)))

pub group_sound : (l : ℕ) (es : List Event) (y : Sender) (failed : Bool) (told : List Event) (known next : Bool)
    (limit : Option ℕ) → AtLine y failed told known next → is_sender_right limit (all_heard l es y) ≡ true
    → IsGroupRight failed known limit told l es
group_sound l es y failed told known next limit a h =
    let s = sender_sound limit (all_heard l es y) (fails_on l es) (told_behind l es y failed told known next a) h in
    let leaves = leaves_all l es y in
    record {
      due = s.due ∙ ap (λ (b : Bool). sns_of (sn_due b limit)) (leaves.failed ∙ a.failed_is);
      silent = λ k. silent_sound (told ++ told_on l es)
          (sym (spoke_behind l es y failed told known next a) ∙ s.silent (leaves.known ∙ a.known_is ∙ k));
    }

pub group_complete : (l : ℕ) (es : List Event) (y : Sender) (failed : Bool) (told : List Event) (known next : Bool)
    (limit : Option ℕ) → AtLine y failed told known next → IsGroupRight failed known limit told l es
    → is_sender_right limit (all_heard l es y) ≡ true
group_complete l es y failed told known next limit a h =
    let leaves = leaves_all l es y in
    sender_complete limit (all_heard l es y) (fails_on l es) (told_behind l es y failed told known next a) (record {
      due = h.due ∙ ap (λ (b : Bool). sns_of (sn_due b limit)) (sym (leaves.failed ∙ a.failed_is));
      silent = λ k. spoke_behind l es y failed told known next a
          ∙ silent_complete (told ++ told_on l es) (h.silent (sym (leaves.known ∙ a.known_is) ∙ k));
    })

pub at_rest : (hands_over : Bool) (l : ℕ) (es : List Event) (y : Sender) (failed : Bool) (told : List Event)
    (known next : Bool) (limit : Option ℕ) → AtLine y failed told known next
    → AtRest (with_end hands_over limit (all_heard l es y)) (not hands_over && is_some limit)
    (if hands_over then [] else told ++ told_on l es) next
at_rest true l es y failed told known next limit a =
    let leaves = leaves_all l es y in
    record {
      failed_is = refl;
      told_is = refl;
      once = refl;
      gave = refl;
      spoke = refl;
      known_is = ap (λ (b : Bool). b || (all_heard l es y).begins) leaves.known
          ∙ ap (λ (b : Bool). y.known || b) leaves.begins ∙ a.next_is;
      rests = refl;
    }
at_rest false l es y failed told known next limit a =
    let leaves = leaves_all l es y in
    record {
      failed_is = refl;
      told_is = refl;
      once = refl;
      gave = gave_is l es y ∙ ap (λ (g : Bool). gave_in g (told_on l es)) a.gave
          ∙ sym (gave_append false told (told_on l es));
      spoke = spoke_behind l es y failed told known next a;
      known_is = ap (λ (b : Bool). b || (all_heard l es y).begins) leaves.known
          ∙ ap (λ (b : Bool). y.known || b) leaves.begins ∙ a.next_is;
      rests = refl;
    }

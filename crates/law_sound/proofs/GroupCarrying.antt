-- Behind each line of a journal but a handover, on a channel with acknowledged bearers, what is gathered stays beside
-- both ends, and what goes on with each step of a life is carried on: so behind a `submit` line its one step, or none.
use Rattle.std.proofs.Common.{◌≡◌, ◌≤◌, ℕ, Bool, true, false, ◌||◌, if◌then◌else◌, List, [], ◌∷◌, ◌++◌, length}
use Rattle.std.proofs.Common.{Option, Some, None, append-nil, refl, ap, sym, subst, ◌∙◌, ◌⊎◌, inl, inr, arith}
use Rattle.std.specs.Prelude.{slice_index_or}
use Rattle.std.specs.List.{AllByRecursion}
use Rattle.air_link.specs.Lines.{no_place}
use Rattle.air_link.specs.Link.{end_of}
use Rattle.air_record.specs.declared.line.Line.{Line}
use Rattle.air_record.specs.declared.line.Line.TheVariants as lines
use Rattle.air_record.specs.declared.record.Record.{Record}
use Rattle.air_record.specs.declared.record.Record.TheVariants as records
use Rattle.air_run.specs.Playing.{acted}
use Rattle.air_run.specs.Run.{behind_line as link_line}
use Rattle.air_text.specs.Groups.{Group}
use Rattle.bearer_types.specs.declared.config.BearerConfig.{BearerConfig}
use Rattle.l2_bits.specs.declared.fault.SubmitRefusal.{SubmitRefusal}
use Rattle.l2_node.specs.Submitting.{refusal}
use Rattle.l2_types.specs.declared.side.Side.{Side}
use Rattle.l2_types.specs.declared.side.Side.TheVariants.{Nb, Ue}
use Rattle.law_node.specs.Calls.{Submit}
use Rattle.promises.specs.Blocks.{kinds}
use Rattle.promises.specs.Configs.{config_by, config_of}
use Rattle.promises.specs.Delivery.{forges, sets_timer}
use Rattle.promises.specs.Arrival.{entries_ended}
use Rattle.promises.specs.Flows.{handed_in, looped_at}
use Rattle.promises.specs.Parts.{is_handover, part_of_line}
use Rattle.pdcp_pdu.specs.declared.pdu.PdcpKind.{PdcpKind}
use Rattle.pdu_show.specs.declared.kinds.Layout.{Layout}
use Rattle.pdu_show.specs.declared.kinds.Layout.TheVariants as layouts
use Rattle.journal_flows.specs.FlowsTold.{Histories, histories, no_events}
use Rattle.journal_flows.specs.Gathering.{Journal, Sending, MayTake, behind, behind_line, behind_end}
use Rattle.journal_flows.specs.Gathering.{behind_record, behind_records}
use Rattle.journal_flows.specs.Gathering as gathering
use Rattle.law_deliver.specs.AmChannel.Lives.{AirStep, InLife, AreLiving, lives}
use Rattle.law_deliver.specs.AmFlow.Air.{Air, Calls, happens, IsGiven}
use Rattle.law_deliver.proofs.AmFlow.Carrying.{rest}
use Rattle.law_run.specs.AnyCalls.Runs.{Submit as LinkSubmit, step}
use Rattle.law_run.specs.Order.{state_behind, IsRight, KeepsOrder}
use Rattle.law_run.specs.TwoEnds.Along.{at_side, IsHandedIn}
use Rattle.law_run.specs.TwoEnds.Coming.{none_yet}
use Rattle.law_run.specs.TwoEnds.Lived.{IsAcknowledged}
use Rattle.law_run.specs.TwoEnds.Logs.{Flight, logged}
use Rattle.law_run.specs.TwoEnds.On.{IsOn}
use Rattle.law_run.proofs.BearerWalk.{adds_one}
use Rattle.law_run.proofs.Flowing.{PartLives, EndsDrain, looped_then, line_stays}
use Rattle.law_run.proofs.Past.{behind as past_behind, link_behind}
use Rattle.law_run.proofs.TwoEnds.Advancing.{steps_stay}
use Rattle.law_run.proofs.TwoEnds.Along.{nothing_looped}
use Rattle.law_run.proofs.TwoEnds.Coming.{same_on}
use Rattle.law_sound.specs.AlikeLaws.{AreAlikeJournals}
use Rattle.law_sound.specs.BesideLaws.{ReadRecord, behind_all, BeginsNone}
use Rattle.law_sound.specs.GroupReading.{IsReadTruly}
use Rattle.law_sound.specs.LivedHistories.{Moment}
use Rattle.law_sound.specs.LivedLimits.{AreLimits}
use Rattle.law_sound.specs.LoggedRecords.{records_of}
use Rattle.law_sound.specs.StepReading.{HasCountOn, AreTruly, IsRead, AreFormed, AreReadTo}
use Rattle.law_sound.proofs.AlikeJournals.{alike_journals}
use Rattle.law_sound.proofs.BesideLives.{other_lines_leave}
use Rattle.law_sound.proofs.GroupBearers.{known_at, counts_at, formed_at, of_kind}
use Rattle.law_sound.proofs.GroupFails.{Stretches, steps_stretch, still_stretch, drained_fail_none, gathered_fails}
use Rattle.law_sound.proofs.Groups.{sending_line}
use Rattle.law_sound.proofs.LivedLimits.{limits_stay}
use Rattle.law_sound.proofs.StepCarrying.{AllSaid, Carries, Live, flight_of, flies_so, flight_at, flies_at}
use Rattle.law_sound.proofs.StepCarrying.{steps_are_carried, gathers_more, through}
use Rattle.law_sound.proofs.StepReading.{steps_are_read}

-- ---- what is gathered alike

pub reads_alike : (may_take : MayTake) (past : List Group) (ks : List (Option Layout)) (reads : List ReadRecord)
    (before : List Record) (i j : Journal Histories) → AreAlikeJournals i j
    → AreAlikeJournals (behind_records histories may_take past ks before (records_of reads) i) (behind_all ks reads j)
reads_alike may_take past ks [] before i j h = h
reads_alike may_take past ks (x ∷ reads) before i j h =
    reads_alike may_take past ks reads (x.one ∷ before) _ (behind_record histories ks x.more x.one j)
    ((alike_journals i j h).records ks (may_take past before x.one) x.more x.one)

pub same_alike : (i : Journal Histories) → AreAlikeJournals i i
same_alike i = record {
  flows = record { acked = λ side lcid. refl; unacked = λ side lcid. refl };
  nb = refl;
  ue = refl;
}

-- ---- lines

stays_there : (line : Line) → is_handover line ≡ false → gathering.is_handover line ≡ false
stays_there (lines.Handover user rrc integrity) h = absurd cc
stays_there line h = refl

pub begins_none : (l : ℕ) (line : Line) → adds_one l line ≡ false → BeginsNone l line
begins_none l (lines.Bearer config options) h = h
begins_none l line h = tt

pub config_stays : (l : ℕ) (line : Line) (before : Option BearerConfig) → adds_one l line ≡ false
    → config_by l line before ≡ before
config_stays l (lines.Bearer config options) before h = ap (λ (b : Bool). if b then Some config else before) h
config_stays l line before h = refl

pub drained_silent : (sent : Flight) (told : List Record) → EndsDrain told → logged sent told ≡ []
drained_silent sent [] h = refl
drained_silent sent (records.Drained done ∷ []) h = refl
drained_silent sent told h = absurd h

pub drained_loops : (told : List Record) → EndsDrain told → (side : Side) (n : ℕ) → looped_at side n told ≡ []
drained_loops [] h side n = nothing_looped side n
drained_loops (records.Drained done ∷ []) h Nb n = refl
drained_loops (records.Drained done ∷ []) h Ue n = refl
drained_loops told h side n = absurd h

-- a line that submits no SDU hands in none
abbrev pub is_submission : Line → Bool
is_submission (lines.Submit side lcid octets) = true
is_submission line = false

pub hands_none : (line : Line) → is_submission line ≡ false → (side : Side) (n : ℕ) (told : List Record)
    → handed_in side n (part_of_line line) told ≡ []
hands_none (lines.Submit at lcid octets) h side n told = absurd cc
hands_none line h side n told = refl

-- ---- behind groups

abbrev pub gathered : MayTake → List Group → Journal Histories
gathered may_take past = behind histories no_events may_take past

abbrev pub Newest : MayTake → BearerConfig → ℕ → List Group → Type 0
Newest may_take c l [] = Unit {0}
Newest may_take c l (g ∷ past) = IsReadTruly may_take c l g past

pub record IsReadBehind (may_take : MayTake) (c : BearerConfig) (l : ℕ) (past : List Group) : Type 0 where
  pub newest : Newest may_take c l past
  pub acked : IsAcknowledged c.kind
  pub low : l ≤ 10
  pub is : config_of l past ≡ Some c
  pub air : Air
  pub moment : Moment
  pub on : IsOn (link_behind past) air
  pub journal : Journal Histories
  pub alike : AreAlikeJournals (gathered may_take past) journal
  pub read : IsRead (of_kind c.kind c.pdcp_bits) l air moment journal
  pub limits : AreLimits c.tx.max_retx read.lived.nb_bearer read.lived.ue_bearer

pub no_records : (ks : List (Option Layout)) (l : ℕ) (j : Journal Histories) → AreTruly ks l j []
no_records ks l j = record { each = tt; all = λ side. omega arith }

-- ---- nothing is carried

abbrev nowhere : List Record → Air → Moment → Journal Histories → Type 0
nowhere told a m j = Unit {0}

abbrev nothing : List Record → ReadRecord → Type 0
nothing told x = Unit {0}

none_said : (told : List Record) (xs : List ReadRecord) → AllSaid nothing told xs
none_said told [] = tt
none_said told (x ∷ xs) = (tt, none_said (told ++ x.one ∷ []) xs)

carries_nothing : (l : ℕ) (kind : PdcpKind) (ks : List (Option Layout)) (events : List Record)
    → Carries l kind ks events nowhere nothing
carries_nothing l kind ks events = record {
  one_step = λ s a m j told xs others sent given octets are logs loops flight r x h. (tt, none_said told x.reads);
  silent = λ a m j told xs others sent octets are logs loops r h. (tt, none_said told xs);
}

-- ---- a line since that is no handover

module _ (may_take : MayTake) (c : BearerConfig) (l : ℕ) (past : List Group) (g : Group) (right : IsRight past g)
    (order : KeepsOrder past) (other : adds_one l g.line ≡ false) (here : is_handover g.line ≡ false)
    (h : IsReadBehind may_take c l past) where
  abbrev ks : List (Option Layout)
  ks = kinds (g ∷ past)

  abbrev kind : PdcpKind
  kind = of_kind c.kind c.pdcp_bits

  abbrev first : Journal Histories
  first = behind_line histories g.line h.journal

  is_then : config_of l (g ∷ past) ≡ Some c
  is_then = config_stays l g.line (config_of l past) other ∙ h.is

  pub known_then : slice_index_or ks l None ≡ Some (layouts.Am kind)
  known_then = known_at (g ∷ past) l c h.low is_then h.acked

  pub counts_then : AllByRecursion (HasCountOn kind l) g.events
  counts_then = counts_at past g l c (right, order) is_then h.acked

  -- before its records
  abbrev pub line_begun : IsRead kind l h.air h.moment first
  line_begun = record {
    lived = h.read.lived;
    new = h.read.new;
    modes = h.read.modes;
    gathered =
        other_lines_leave l h.air h.moment.pdus h.moment.down h.moment.up g.line h.journal
        (begins_none l g.line other) h.read.gathered;
    named = λ side. ap (λ (s : Sending). s.named) (sending_line side g.line h.journal) ∙ h.read.named side;
  }

  -- and behind them
  abbrev read_behind : (air : Air) (moment : Moment) (reads : List ReadRecord) → IsOn (link_behind (g ∷ past)) air
      → records_of reads ≡ g.events → (now : IsRead kind l air moment (behind_all ks reads first))
      → AreTruly ks l first reads → Stretches c.tx.max_retx l g.events h.moment moment
      → AreLimits c.tx.max_retx now.lived.nb_bearer now.lived.ue_bearer → IsReadBehind may_take c l (g ∷ past)
  read_behind air moment reads on are now statuses stretches limits = record {
    newest = record {
      first = first;
      alike = (alike_journals _ _ h.alike).lines g.line;
      reads = reads;
      are = are;
      statuses = statuses;
      fails = gathered_fails c.tx.max_retx l g.events h.air air h.moment moment first (behind_all ks reads first)
          line_begun.gathered now.gathered stretches;
    };
    acked = h.acked;
    low = h.low;
    is = is_then;
    air = air;
    moment = moment;
    on = on;
    journal = behind_all ks reads first;
    alike = subst (λ (b : Bool). AreAlikeJournals (behind_end histories b
        (behind_records histories may_take past ks [] g.events (behind_line histories g.line (gathered may_take past))))
        (behind_all ks reads first))
        (sym (stays_there g.line here))
        (subst (λ (told : List Record). AreAlikeJournals (behind_records histories may_take past ks [] told
        (behind_line histories g.line (gathered may_take past)))
        (behind_all ks reads first)) are
        (reads_alike may_take past ks reads [] _ first ((alike_journals _ _ h.alike).lines g.line)));
    read = now;
    limits = limits;
  }

  module _ (Within : List Record → Air → Moment → Journal Histories → Type 0)
      (Says : List Record → ReadRecord → Type 0) where
    -- what goes on with each step is carried on, where the line submits none
    record StaysSo : Type 0 where
      behind : IsReadBehind may_take c l (g ∷ past)
      first_is : behind.newest.first ≡ first
      journal_is : behind.journal ≡ behind_all ks behind.newest.reads behind.newest.first
      carried : is_submission g.line ≡ false → Within g.events behind.air behind.moment behind.journal
          × AllSaid Says [] behind.newest.reads

    stays_so : forges g.line ≡ false → Carries l kind ks g.events Within Says → Within [] h.air h.moment first
        → StaysSo
    stays_so own carries within =
        let formed = formed_at past g (right, order) in
        let live : Live l kind ks g.events Within Says known_then carries counts_then first c.tx.max_retx h.moment []
        none_yet (λ bits from. []) false (link_behind past) = record {
          air = h.air;
          on = h.on;
          looped = λ side n. let none = ap length (nothing_looped side n) in omega (arith, none);
          gathers = λ others are.
              record {
                reads = [];
                are = refl;
                moment = h.moment;
                read = line_begun;
                statuses = no_records ks l first;
                stretches = still_stretch c.tx.max_retx l [] h.air h.moment h.read.lived (λ side. refl);
                limits = h.limits;
                formed = subst (AreFormed ks) are formed;
                carried = λ so. (within, tt);
              };
        } in
        let m = link_line g.line (state_behind past) in
        let x : PartLives l
        (Live l kind ks g.events Within Says known_then carries counts_then first c.tx.max_retx h.moment)
        (through l kind ks g.events Within Says known_then carries counts_then first c.tx.max_retx h.moment)
        [] none_yet (λ bits from. [])
        (false || sets_timer l g.line) (entries_ended g.line) (part_of_line g.line) m =
        line_stays l
        (Live l kind ks g.events Within Says known_then carries counts_then first c.tx.max_retx h.moment)
        (through l kind ks g.events Within Says known_then carries counts_then first c.tx.max_retx h.moment)
        [] none_yet (λ bits from. []) false g.line
        (state_behind past).rules.keys (link_behind past)
        (past_behind past order).nothing right.in_range other own here live
        in
        let events_are : g.events ≡ x.more ++ x.rest = right.events_are ∙ x.out_is in
        let all : g.events ≡ x.more ++ (x.rest ++ []) =
        events_are ∙ ap (λ (zs : List Record). x.more ++ zs) (sym (append-nil x.rest)) in
        let q = x.lived.gathers (x.rest ++ []) all in
        let j = behind_all ks q.reads first in
        let air = x.lived.air in
        let y = steps_are_carried l kind ks g.events Within Says known_then carries _ [] air q.moment j
        (flight_at x.more j) x.more x.rest [] tt tt q.read (flies_at x.more j) refl all
        (drained_silent (flight_at x.more j) x.rest x.rest_ends, drained_loops x.rest x.rest_ends)
        (rest (HasCountOn kind l) x.more x.rest (subst (AllByRecursion (HasCountOn kind l)) events_are counts_then))
        q.formed (λ so. (q.carried so).0) in
        let w = gathers_more l kind ks g.events Within Says known_then carries counts_then first c.tx.max_retx h.moment
        _ _ x.more x.rest [] [] air q tt y (λ so. so)
        (subst (Stretches c.tx.max_retx l x.rest q.moment) y.over
        (still_stretch c.tx.max_retx l x.rest air q.moment q.read.lived (drained_fail_none l x.rest x.rest_ends))) in
        record {
          behind = read_behind air w.moment w.reads
              (same_on m (link_behind (g ∷ past)) air refl refl refl x.lived.on) (w.are ∙ sym events_are) w.read
              w.statuses (subst (λ (zs : List Record). Stretches c.tx.max_retx l zs h.moment w.moment) (sym events_are)
              w.stretches) w.limits;
          first_is = refl;
          journal_is = refl;
          carried = λ unsubmitted.
              let p = w.carried (λ side n.
              ap length (ap (λ (xs : List (List ℕ)). xs ++ looped_at side n m.out)
              (hands_none g.line unsubmitted side n m.out)
              ∙ (ap (looped_at side n) x.out_is
              ∙ (looped_then side n x.more x.rest
              ∙ (ap (λ (xs : List (List ℕ)). looped_at side n x.more ++ xs) (drained_loops x.rest x.rest_ends side n)
              ∙ append-nil (looped_at side n x.more)))))) in (
                subst (λ (zs : List Record). Within zs air w.moment (behind_all ks w.reads first)) (sym events_are) p.0,
                p.1,
              );
        }

  pub stays : forges g.line ≡ false → IsReadBehind may_take c l (g ∷ past)
  stays own = (stays_so nowhere nothing own (carries_nothing l kind ks g.events) tt).behind

-- ---- a line that is no handover and submits no SDU

pub record StaysCarrying (Within : List Record → Air → Moment → Journal Histories → Type 0)
    (Says : List Record → ReadRecord → Type 0) (may_take : MayTake) (c : BearerConfig) (l : ℕ) (g : Group)
    (past : List Group) (before : Journal Histories) : Type 0 where
  pub behind : IsReadBehind may_take c l (g ∷ past)
  pub first_is : behind.newest.first ≡ behind_line histories g.line before
  pub journal_is : behind.journal ≡ behind_all (kinds (g ∷ past)) behind.newest.reads behind.newest.first
  pub within : Within g.events behind.air behind.moment behind.journal
  pub said : AllSaid Says [] behind.newest.reads

pub stays_carrying : (Within : List Record → Air → Moment → Journal Histories → Type 0)
    (Says : List Record → ReadRecord → Type 0) (may_take : MayTake) (c : BearerConfig) (l : ℕ) (past : List Group)
    (g : Group) → IsRight past g → KeepsOrder past → adds_one l g.line ≡ false → forges g.line ≡ false
    → is_handover g.line ≡ false → is_submission g.line ≡ false → (h : IsReadBehind may_take c l past)
    → Carries l (of_kind c.kind c.pdcp_bits) (kinds (g ∷ past)) g.events Within Says
    → Within [] h.air h.moment (behind_line histories g.line h.journal)
    → StaysCarrying Within Says may_take c l g past h.journal
stays_carrying Within Says may_take c l past g right order other own here unsubmitted h carries within =
    let x = stays_so may_take c l past g right order other here h Within Says own carries within in
    let p = x.carried unsubmitted in
    record {
      behind = x.behind;
      first_is = x.first_is;
      journal_is = x.journal_is;
      within = p.0;
      said = p.1;
    }

-- ---- a line that submits one

module _ (may_take : MayTake) (c : BearerConfig) (l : ℕ) (past : List Group) (g : Group) (side : Side) (lcid : ℕ)
    (octets : List ℕ) (h : IsReadBehind may_take c l past) (b : IsReadBehind may_take c l (g ∷ past)) where
  -- one step hands it in, and nothing is told
  pub record HandsIn : Type 0 where
    pub taken : refusal lcid octets (end_of side (link_behind past)) ≡ None
    pub none : g.events ≡ []
    pub given : IsGiven l h.air (at_side side (Calls (Submit lcid octets)))
    pub air_is : b.air ≡ happens h.air (at_side side (Calls (Submit lcid octets)))
    pub to : AreReadTo (kinds (g ∷ past)) (of_kind c.kind c.pdcp_bits) l h.air
        (InLife (at_side side (Calls (Submit lcid octets))) ∷ []) h.moment
        (behind_line histories g.line h.journal) [] []
    pub moment_is : b.moment ≡ to.last
    pub reads_are : b.newest.reads ≡ to.reads
    pub journal_is : b.journal ≡ behind_all (kinds (g ∷ past)) to.reads (behind_line histories g.line h.journal)

  -- it is refused, as one record tells
  pub record Refuses : Type 0 where
    pub why : SubmitRefusal
    pub refused : refusal lcid octets (end_of side (link_behind past)) ≡ Some why
    pub are : g.events ≡ records.Refused side lcid (no_place why) ∷ []
    pub air_is : b.air ≡ h.air
    pub moment_is : b.moment ≡ h.moment
    pub journal_is : b.journal
        ≡ behind_all (kinds (g ∷ past)) b.newest.reads (behind_line histories g.line h.journal)

  -- records of steps, as they were read
  record ReadSo (steps : List AirStep) (more : List Record) : Type 0 where
    events_are : g.events ≡ more
    living : AreLiving l h.air steps
    air_is : b.air ≡ lives steps h.air
    to : AreReadTo (kinds (g ∷ past)) (of_kind c.kind c.pdcp_bits) l h.air steps h.moment
        (behind_line histories g.line h.journal) more []
    moment_is : b.moment ≡ to.last
    reads_are : b.newest.reads ≡ to.reads

  submits_so : (steps : List AirStep) (more : List Record) → ReadSo steps more
      → b.journal ≡ behind_all (kinds (g ∷ past)) b.newest.reads (behind_line histories g.line h.journal)
      → IsHandedIn side lcid octets (link_behind past) steps more → HandsIn ⊎ Refuses
  submits_so steps more x journal handed = by (refusal lcid octets (end_of side (link_behind past))) refl
    where
      at : (steps' : List AirStep) (more' : List Record) → (steps ≡ steps') × (more ≡ more') → ReadSo steps' more'
      at steps' more' e = subst (λ (zs : List Record). ReadSo steps' zs) e.1
          (subst (λ (xs : List AirStep). ReadSo xs more) e.0 x)

      by : (r : Option SubmitRefusal) → refusal lcid octets (end_of side (link_behind past)) ≡ r → HandsIn ⊎ Refuses
      by None q =
          let y = at _ _ (handed.taken q) in
          inl (record {
            taken = q;
            none = y.events_are;
            given = y.living.0;
            air_is = y.air_is;
            to = y.to;
            moment_is = y.moment_is;
            reads_are = y.reads_are;
            journal_is = journal ∙ ap (λ (xs : List ReadRecord). behind_all (kinds (g ∷ past)) xs
                (behind_line histories g.line h.journal)) y.reads_are;
          })
      by (Some why) q =
          let y = at _ _ (handed.refused why q) in
          inr (record {
            why = why;
            refused = q;
            are = y.events_are;
            air_is = y.air_is;
            moment_is = y.moment_is ∙ sym y.to.over;
            journal_is = journal;
          })

pub record SubmitsCarrying (may_take : MayTake) (c : BearerConfig) (l : ℕ) (past : List Group) (g : Group)
    (side : Side) (lcid : ℕ) (octets : List ℕ) (h : IsReadBehind may_take c l past) : Type 0 where
  pub behind : IsReadBehind may_take c l (g ∷ past)
  pub first_is : behind.newest.first ≡ behind_line histories g.line h.journal
  pub journal_is : behind.journal ≡ behind_all (kinds (g ∷ past)) behind.newest.reads behind.newest.first
  pub so : HandsIn may_take c l past g side lcid octets h behind ⊎ Refuses may_take c l past g side lcid octets h behind

pub submits_carrying : (may_take : MayTake) (c : BearerConfig) (l : ℕ) (past : List Group) (g : Group) (side : Side)
    (lcid : ℕ) (octets : List ℕ) → IsRight past (record g { line = lines.Submit side lcid octets }) → KeepsOrder past
    → (h : IsReadBehind may_take c l past)
    → SubmitsCarrying may_take c l past (record g { line = lines.Submit side lcid octets }) side lcid octets h
unfolding acted
submits_carrying may_take c l past g side lcid octets right order h =
    let now : Group = record g { line = lines.Submit side lcid octets } in
    let ks = kinds (now ∷ past) in
    let kind = of_kind c.kind c.pdcp_bits in
    let k = link_behind past in
    let x = steps_stay l (LinkSubmit side lcid octets) k h.air tt h.on in
    let by = x.goes.by in
    let more = x.goes.more in
    let events_are : g.events ≡ more =
    right.events_are ∙ (x.goes.out_is ∙ ap (λ (o : List Record). o ++ more) (past_behind past order).nothing) in
    let first = behind_line histories now.line h.journal in
    let begun = line_begun may_take c l past now right order refl refl h in
    let life = x.in_life refl in
    let y = steps_are_read ks kind l by.steps h.air h.moment (flight_of first) first more []
    (known_then may_take c l past now right order refl refl h) by.living life begun (flies_so first)
    (x.goes.log_alone (flight_of first) ∙ sym by.logged_is)
    (subst (AllByRecursion (HasCountOn kind l)) events_are (counts_then may_take c l past now right order refl refl h))
    (subst (AreFormed ks) (events_are ∙ sym (append-nil more)) (formed_at past now (right, order))) in
    let behind = read_behind may_take c l past now right order refl refl h (lives by.steps h.air) y.last y.reads
    (same_on (step (LinkSubmit side lcid octets) k) (link_behind (now ∷ past)) (lives by.steps h.air) refl refl refl
    by.on)
    (y.are ∙ sym events_are) y.read y.statuses
    (subst (λ (zs : List Record). Stretches c.tx.max_retx l zs h.moment y.last) (sym events_are)
    (steps_stretch c.tx.max_retx l more _ _ _ _ h.air h.moment y.last by h.read.new life h.read.lived y.over h.limits))
    (limits_stay c.tx.max_retx l by.steps h.air h.moment y.last h.read.new by.living h.read.lived y.read.lived
    h.limits) in
    record {
      behind = behind;
      first_is = refl;
      journal_is = refl;
      so = submits_so may_take c l past now side lcid octets h behind by.steps more (record {
        events_are = events_are;
        living = by.living;
        air_is = refl;
        to = y;
        moment_is = refl;
        reads_are = refl;
      }) refl x.goes.submits;
    }

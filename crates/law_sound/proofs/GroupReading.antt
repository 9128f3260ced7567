-- What is gathered of a journal stays beside both ends on a channel with an acknowledged bearer, group by group from
-- the line on in which its bearers come.
use Rattle.std.proofs.Common.{◌≡◌, ℕ, Bool, true, false, if◌then◌else◌, List, [], ◌∷◌, ◌++◌, length, Some}
use Rattle.std.proofs.Common.{append-nil, refl, ap, sym, subst, ◌∙◌, arith}
use Rattle.std.specs.List.{AllByRecursion}
use Rattle.std.proofs.lemmas.Bool.{eq-eqb}
use Rattle.air_link.specs.Link.{Link, end_of}
use Rattle.air_record.specs.declared.line.Line.TheVariants as lines
use Rattle.air_record.specs.declared.record.Record.{Record}
use Rattle.air_record.specs.Cells.{next_keys}
use Rattle.air_run.specs.Playing.{keys_or_none, acted}
use Rattle.air_text.specs.Groups.{Group}
use Rattle.bearer_types.specs.declared.config.BearerConfig.{BearerConfig}
use Rattle.eps_sec.specs.declared.Key.{Key}
use Rattle.eps_sec.specs.declared.Keys.{Keys}
use Rattle.l2_node.specs.End.{End}
use Rattle.l2_types.specs.declared.side.Side.{Side}
use Rattle.l2_types.specs.declared.side.Side.TheVariants.{Nb, Ue}
use Rattle.promises.specs.Blocks.{kinds}
use Rattle.promises.specs.Configs.{config_of}
use Rattle.promises.specs.Delivery.{forges, is_forged}
use Rattle.promises.specs.Names.{Acknowledged}
use Rattle.promises.specs.Parts.{is_handover}
use Rattle.promises.specs.Telling.{channels}
use Rattle.prioritise.proofs.ChannelLemmas.{both_false}
use Rattle.journal_flows.specs.FlowsTold.{Histories, histories}
use Rattle.journal_flows.specs.Gathering.{Journal, Sending, MayTake, sending_of, behind_line, behind_end}
use Rattle.journal_flows.specs.Gathering.{behind_records}
use Rattle.law_deliver.specs.AmChannel.Lives.{Moves, lives, lives_on, end_at}
use Rattle.law_deliver.specs.AmFlow.Air.{Air, outset}
use Rattle.law_deliver.specs.AmFlow.Carrying.{carries_none}
use Rattle.law_deliver.proofs.AmFlow.Carrying.{rest}
use Rattle.law_bearer.specs.AnyBearer.Calls.{Restart}
use Rattle.law_deliver.proofs.AmFlow.Ups.{the_end}
use Rattle.law_node.specs.Holding.{flow}
use Rattle.law_node.specs.Names.{mode}
use Rattle.law_run.specs.AnyCalls.Calls as calls
use Rattle.law_run.specs.AnyCalls.Runs.{Calls, step}
use Rattle.law_run.specs.Order.{state_behind, IsRight, KeepsOrder}
use Rattle.law_run.specs.TwoEnds.Lived.{IsAcknowledged}
use Rattle.law_run.specs.TwoEnds.Logs.{no_flight}
use Rattle.law_run.specs.TwoEnds.Staying.{MovesOn}
use Rattle.law_run.proofs.BearerWalk.{comes, behind_all as walk_all}
use Rattle.law_run.proofs.BearersFirst.{bearers_begin_first}
use Rattle.law_run.proofs.Knowing.{has_place}
use Rattle.law_run.proofs.Modes.{keeps_mode}
use Rattle.law_run.proofs.Past.{behind as past_behind, link_behind}
use Rattle.law_run.proofs.Renewed.{line_by}
use Rattle.law_run.proofs.Standing.{lines_tell}
use Rattle.law_run.proofs.TwoEnds.Coming.{same_on}
use Rattle.law_run.proofs.TwoEnds.Advancing.{handovers_move}
use Rattle.law_sound.specs.AlikeLaws.{AreAlikeJournals}
use Rattle.law_sound.specs.BesideLaws.{ReadRecord, behind_all}
use Rattle.law_sound.specs.GroupReading.{GroupsAreRead}
use Rattle.law_sound.specs.LivedFails.{HaveComeNew}
use Rattle.law_sound.specs.LivedHistories.{AreLived, Moment, GoOver}
use Rattle.law_sound.specs.LoggedRecords.{records_of}
use Rattle.law_sound.specs.StepReading.{AreReadTo, read_as, IsRead}
use Rattle.law_sound.proofs.AlikeJournals.{alike_journals}
use Rattle.law_sound.proofs.BesideLives.{bearers_begin, moves_are_gathered}
use Rattle.law_sound.proofs.Groups.{AreSilent, sending_line, silent_sending}
use Rattle.law_sound.proofs.LivedFails.{lived_there, stands_new}
use Rattle.law_sound.proofs.LivedHistories.{lives_begin_beside, moves_begin_beside}
use Rattle.law_sound.proofs.MovingFails.{lives_come_new}
use Rattle.law_sound.proofs.StepReading.{steps_are_read}
use Rattle.law_sound.proofs.StepRecords.{records_read}
use Rattle.law_sound.proofs.Still.{IsGone, AreGone, handover_gone}
use Rattle.law_sound.proofs.GroupFails.{still_stretch, gone_fail_none, gathered_fails}
use Rattle.law_sound.proofs.LivedLimits.{limits_stay, limits_begin}
use Rattle.promises.specs.Events.{fails_on}
use Rattle.promises.specs.Records.{events_of}
use Rattle.law_sound.proofs.GroupBearers.{known_at, begins_at, mode_at, of_kind, first_bearer}
use Rattle.law_sound.proofs.GroupCarrying.{gathered, IsReadBehind, no_records, reads_alike, same_alike, stays}
use Rattle.law_sound.proofs.GoneRecords.{gone_left, turned_left, left_beside, gone_formed, gone_counts, gone_truly}

-- ---- the line in which its bearers come

pub at_end : (side : Side) (k : Link) (P : Side → End → Type 0) → P side (end_of side k)
    → P side (end_at side (outset k.nb k.ue))
at_end Nb k P h = h
at_end Ue k P h = h

-- no PDU is under way yet, and both histories are without events
abbrev pub outset_moment : Moment
outset_moment = record { pdus = carries_none; down = []; up = [] }

-- nothing is told in it
pub record BeginsCarrying (may_take : MayTake) (past : List Group) (g : Group) (c : BearerConfig) (options : _)
    : Type 0 where
  pub behind : IsReadBehind may_take c c.channel.lcid (record g { line = lines.Bearer c options } ∷ past)
  pub none : g.events ≡ []
  pub air_is : (let there = link_behind (record g { line = lines.Bearer c options } ∷ past) in
      behind.air ≡ outset there.nb there.ue)
  pub moment_is : behind.moment ≡ outset_moment
  pub first_is : behind.newest.first ≡ behind_line histories (lines.Bearer c options) (gathered may_take past)
  pub journal_is : behind.journal ≡ behind_line histories (lines.Bearer c options) (gathered may_take past)
  pub reads_are : behind.newest.reads ≡ []

pub begins : (may_take : MayTake) (past : List Group) (g : Group) (c : BearerConfig) (options : _)
    → IsRight past (record g { line = lines.Bearer c options }) → KeepsOrder past → IsAcknowledged c.kind
    → BeginsCarrying may_take past g c options
begins may_take past g c options right order acked =
    let all : List Group = record g { line = lines.Bearer c options } ∷ past in
    let l = c.channel.lcid in
    let x = comes past g c options right order in
    let there = link_behind all in
    let none : g.events ≡ [] = (lines_tell all (right, order)).0 in
    let silent : AreSilent past = (bearers_begin_first all (right, order)).0.early in
    let before = gathered may_take past in
    let j = behind_line histories (lines.Bearer c options) before in
    let sent = λ (side : Side). silent_sending may_take side past silent in
    let fits = has_place c.kind l x.config.lcid in
    let outset_told = outset_moment in
    let read : IsRead (of_kind c.kind c.pdcp_bits) l (outset there.nb there.ue) outset_told j = record {
      lived =
          lives_begin_beside l there.nb there.ue (first_bearer c x.keys Nb) (first_bearer c x.keys Ue)
          (begins_at Nb c x.keys there.nb acked (x.begun Nb)) (begins_at Ue c x.keys there.ue acked (x.begun Ue));
      new = record {
        nb = record { come = (x.begun Nb).come; new = (x.begun Nb).new };
        ue = record { come = (x.begun Ue).come; new = (x.begun Ue).new };
      };
      modes = λ side. at_end side there (λ s e. mode (flow l e) ≡ Acknowledged (of_kind c.kind c.pdcp_bits))
          (mode_at side c x.keys (end_of side there) acked (x.begun side));
      gathered =
          bearers_begin there.nb there.ue c options before (ap (λ (s : Sending). length s.held) (sent Nb))
          (ap (λ (s : Sending). length s.held) (sent Ue));
      named = λ side. ap (λ (s : Sending). s.named) (sending_line side (lines.Bearer c options) before ∙ sent side);
    } in
    record {
      behind = record {
        newest = record {
          first = j;
          alike = same_alike j;
          reads = [];
          are = sym none;
          statuses = no_records (kinds all) l j;
          fails = gathered_fails c.tx.max_retx l g.events (outset there.nb there.ue)
              (outset there.nb there.ue) outset_told
              outset_told j j read.gathered read.gathered
              (still_stretch c.tx.max_retx l g.events (outset there.nb there.ue) outset_told read.lived
              (λ side. ap (λ (zs : List Record). fails_on l (events_of side zs)) none));
        };
        acked = acked;
        low = omega (arith, fits);
        is = ap (λ (b : Bool). if b then Some c else config_of l past) (eq-eqb l l refl);
        air = outset there.nb there.ue;
        moment = outset_told;
        on = x.early.rest;
        journal = j;
        alike = subst (λ (told : List Record). AreAlikeJournals
            (behind_records histories may_take past (kinds all) [] told j)
            j) (sym none) (same_alike j);
        read = read;
        limits = limits_begin l c x.keys (outset there.nb there.ue) outset_told (x.begun Nb) (x.begun Ue) read.lived;
      };
      none = none;
      air_is = refl;
      moment_is = refl;
      first_is = refl;
      journal_is = refl;
      reads_are = refl;
    }

-- ---- a handover

pub reads_gone : (reads : List ReadRecord) → AreGone (records_of reads)
    → AllByRecursion (λ (x : ReadRecord). IsGone x.one) reads
reads_gone [] h = tt
reads_gone (x ∷ reads) h = (h.0, reads_gone reads h.1)

move_modes : (l : ℕ) (side : Side) (a : Air) (keys : Keys) (m : Moment) → AreLived l a m.pdus m.down m.up
    → HaveComeNew l a
    → mode (flow l (end_at side (lives_on a (Moves keys)))) ≡ mode (flow l (end_at side a))
move_modes l Nb a keys m h new =
    ap mode (the_end Nb l a.nb.end keys (stands_new Nb l a.nb.end new.nb (lived_there l a m h).nb)).bearer_is
    ∙ keeps_mode (Restart keys ∷ []) (flow l a.nb.end)
move_modes l Ue a keys m h new =
    ap mode (the_end Ue l a.ue.end keys (stands_new Ue l a.ue.end new.ue (lived_there l a m h).ue)).bearer_is
    ∙ keeps_mode (Restart keys ∷ []) (flow l a.ue.end)

none_ended : (side : Side) (j : Journal Histories) → (sending_of side (behind_end histories true j)).named ≡ []
none_ended Nb j = refl
none_ended Ue j = refl

-- both ends move under these keys
abbrev pub moved_keys : Key → Key → Key → List Group → Keys
moved_keys user rrc integrity past = next_keys user rrc integrity (keys_or_none (state_behind past).rules.keys)

-- as the next life begins
abbrev pub journal_moved : List Group → Group → Journal Histories → Journal Histories
journal_moved all g j = behind_end histories true (behind_all (kinds all) (read_as false g.events) j)

-- what it tells on no bearer is read, in the life that ends; and then the steps of the next one, with what they tell
pub record MovesCarrying (may_take : MayTake) (c : BearerConfig) (l : ℕ) (past : List Group) (g : Group)
    (user rrc integrity : _) (h : IsReadBehind may_take c l past) : Type 0 where
  pub behind : IsReadBehind may_take c l (record g { line = lines.Handover user rrc integrity } ∷ past)
  pub moved : MovesOn l (moved_keys user rrc integrity past) (link_behind past) h.air
  pub are : g.events ≡ moved.leaving ++ moved.behind
  pub gone : AreGone g.events
  pub begun : (let all = record g { line = lines.Handover user rrc integrity } ∷ past in
      IsRead (of_kind c.kind c.pdcp_bits) l (lives_on h.air (Moves (moved_keys user rrc integrity past)))
      outset_moment (journal_moved all g h.journal))
  pub to : (let all = record g { line = lines.Handover user rrc integrity } ∷ past in
      AreReadTo (kinds all) (of_kind c.kind c.pdcp_bits) l
      (lives_on h.air (Moves (moved_keys user rrc integrity past))) moved.by.steps outset_moment
      (journal_moved all g h.journal) moved.behind [])
  pub air_is : behind.air ≡ lives moved.by.steps (lives_on h.air (Moves (moved_keys user rrc integrity past)))
  pub moment_is : behind.moment ≡ to.last
  pub over : GoOver l moved.by.steps (lives_on h.air (Moves (moved_keys user rrc integrity past))) outset_moment
      behind.moment
  pub reads_are : behind.newest.reads ≡ read_as false g.events
  pub first_is : behind.newest.first ≡ h.journal
  pub journal_is : behind.journal
      ≡ journal_moved (record g { line = lines.Handover user rrc integrity } ∷ past) g h.journal

pub moves : (may_take : MayTake) (c : BearerConfig) (l : ℕ) (past : List Group) (g : Group) (user rrc integrity : _)
    → IsRight past (record g { line = lines.Handover user rrc integrity }) → KeepsOrder past
    → (h : IsReadBehind may_take c l past) → MovesCarrying may_take c l past g user rrc integrity h
unfolding acted
moves may_take c l past g user rrc integrity right order h =
    let line = lines.Handover user rrc integrity in
    let all : List Group = record g { line = line } ∷ past in
    let ks = kinds all in
    let kind = of_kind c.kind c.pdcp_bits in
    let k = link_behind past in
    let keys = moved_keys user rrc integrity past in
    let x : MovesOn l keys k h.air = handovers_move l keys k h.air h.on in
    let gone = handover_gone (λ side. channels past) g.events (lines_tell all (right, order)).0 in
    let events_are : g.events ≡ x.leaving ++ x.behind =
    right.events_are
    ∙ (x.out_is ∙ ap (λ (o : List Record). o ++ (x.leaving ++ x.behind)) (past_behind past order).nothing)
    in
    let behind_gone = rest IsGone x.leaving x.behind (subst AreGone events_are gone) in
    let told = read_as false g.events in
    let j = behind_all ks told h.journal in
    let ended = behind_end histories true j in
    let begun = outset_moment in
    let m = h.moment in
    let anew : IsRead kind l (lives_on h.air (Moves keys)) begun ended = record {
      lived = moves_begin_beside l h.air m.pdus m.down m.up keys h.read.lived;
      new = lives_come_new l (Moves keys ∷ []) h.air h.read.new (tt, tt);
      modes = λ side. move_modes l side h.air keys m h.read.lived h.read.new ∙ h.read.modes side;
      gathered = moves_are_gathered l h.air keys j;
      named = λ side. none_ended side j;
    } in
    let y = steps_are_read ks kind l x.by.steps (lives_on h.air (Moves keys)) begun no_flight ended x.behind []
    (known_at all l c h.low h.is h.acked) x.by.living x.in_life anew (record { nb_is = refl; ue_is = refl })
    (sym x.by.logged_is) (gone_counts kind l x.behind behind_gone)
    (gone_formed ks (x.behind ++ []) (subst AreGone (sym (append-nil x.behind)) behind_gone)) in
    let left = gone_left ks l y.reads ended (reads_gone y.reads (subst AreGone (sym y.are) behind_gone)) in
    let there = lives x.by.steps (lives_on h.air (Moves keys)) in
    record {
      behind = record {
        newest = record {
          first = h.journal;
          alike = h.alike;
          reads = told;
          are = records_read false g.events;
          statuses = gone_truly ks l g.events h.journal gone;
          fails = gathered_fails c.tx.max_retx l g.events h.air h.air m m h.journal j h.read.gathered
              (left_beside l h.air m h.journal j (turned_left l _ _ (gone_left ks l told h.journal
              (reads_gone told (subst AreGone (sym (records_read false g.events)) gone)))) h.read.gathered)
              (still_stretch c.tx.max_retx l g.events h.air m h.read.lived (gone_fail_none l g.events gone));
        };
        acked = h.acked;
        low = h.low;
        is = h.is;
        air = there;
        moment = y.last;
        on = same_on (step (Calls (calls.HandsOver keys)) k) (link_behind all) there refl refl refl x.by.on;
        journal = ended;
        alike = (alike_journals _ _
            (subst (λ (zs : List Record). AreAlikeJournals (behind_records histories may_take past ks [] zs
            (gathered may_take past)) j) (records_read false g.events)
            (reads_alike may_take past ks told [] (gathered may_take past) h.journal h.alike))).ends true;
        read = record {
          lived = y.read.lived;
          new = y.read.new;
          modes = y.read.modes;
          gathered = left_beside l there y.last (behind_all ks y.reads ended) ended left y.read.gathered;
          named = λ side. none_ended side j;
        };
        limits = limits_stay c.tx.max_retx l (Moves keys ∷ x.by.steps) h.air m y.last h.read.new (tt, x.by.living)
            h.read.lived y.read.lived h.limits;
      };
      moved = x;
      are = events_are;
      gone = gone;
      begun = anew;
      to = y;
      air_is = refl;
      moment_is = refl;
      over = y.over;
      reads_are = refl;
      first_is = refl;
      journal_is = refl;
    }

-- ---- behind all groups

pub is_read : (may_take : MayTake) (l : ℕ) (past : List Group) (c : BearerConfig) → KeepsOrder past
    → IsAcknowledged c.kind → config_of l past ≡ Some c → is_forged past ≡ false → IsReadBehind may_take c l past
is_read may_take =
    walk_all (λ l c past. is_forged past ≡ false → IsReadBehind may_take c l past) (λ c. IsAcknowledged c.kind)
    (λ past g c options right order acked own. (begins may_take past g c options right order acked).behind)
    (λ l c past g right order other before h own.
    let apart = both_false (forges g.line) (is_forged past) own in
    line_by (IsReadBehind may_take c)
    (λ l past g right order other own here h. stays may_take c l past g right order other here h own)
    (λ l past g user rrc integrity right order h. (moves may_take c l past g user rrc integrity right order h).behind)
    (is_handover g.line) l past g refl other right order apart.0 (h apart.1))

pub groups_are_read : GroupsAreRead
groups_are_read may_take l now past config order own is acked =
    (is_read may_take l (now ∷ past) config order acked is own).newest

-- The `fail` records of a group are right, on a channel with an acknowledged bearer, by what is gathered of the journal
-- where that agrees with what is read beside both ends.
use Rattle.std.proofs.Common.{◌≡◌, ℕ, Bool, true, false, List, [], ◌∷◌, refl, ap, sym, subst, ◌∙◌}
use Rattle.air_record.specs.declared.line.Line.TheVariants as lines
use Rattle.air_text.specs.Groups.{Group}
use Rattle.bearer_types.specs.declared.config.BearerConfig.{BearerConfig}
use Rattle.eps_sec.specs.declared.keys.Key.{Key}
use Rattle.l2_types.specs.declared.side.Side.{Side}
use Rattle.promises.specs.Blocks.{kinds}
use Rattle.journal_failure.specs.RightFailure.{AreFailsOf, only_line, life_of, sns_told}
use Rattle.journal_lives.specs.LifeEvents.{LifeEvent, running}
use Rattle.journal_flows.specs.FlowsTold.{Histories, histories, no_events}
use Rattle.journal_flows.specs.Gathering.{Journal, MayTake, behind, behind_line, behind_end, within, is_handover}
use Rattle.law_sound.specs.AgreeLaws.{AgreeOn}
use Rattle.law_sound.specs.BesideLaws.{ReadRecord, behind_all}
use Rattle.law_sound.specs.GroupReading.{IsReadTruly}
use Rattle.law_sound.specs.StepReading.{read_as}
use Rattle.law_sound.proofs.AgreeJournals.{journals_agree}
use Rattle.law_sound.proofs.GroupCarrying.{IsReadBehind, gathered, same_alike}
use Rattle.law_sound.proofs.GroupReading.{BeginsCarrying, MovesCarrying}

-- those of the newest group
abbrev pub FailsSaid : MayTake → BearerConfig → ℕ → List Group → Type 0
FailsSaid may_take c l [] = Unit {0}
FailsSaid may_take c l (now ∷ past) =
    (side : Side) → AreFailsOf c.tx.max_retx (life_of may_take (only_line now) past side l)
    (life_of may_take now past side l) (sns_told side l now)

abbrev others_of : List LifeEvent → List LifeEvent
others_of [] = []
others_of (e ∷ es) = es

-- a life that ends is as it was before
ended_same : (over : Bool) (l : ℕ) (side : Side) (i j : Journal Histories)
    → (behind_end histories over i).flows.acked side l ≡ (behind_end histories over j).flows.acked side l
    → i.flows.acked side l ≡ j.flows.acked side l
ended_same true l side i j same = ap others_of same
ended_same false l side i j same = same

pub fails_said : (may_take : MayTake) (c : BearerConfig) (l : ℕ) (now : Group) (past : List Group)
    (read : IsReadTruly may_take c l now past) (j k : Journal Histories)
    → AgreeOn l (behind histories no_events may_take past) j
    → AgreeOn l (behind histories no_events may_take (now ∷ past)) k
    → read.first ≡ behind_line histories now.line j
    → k ≡ behind_end histories (is_handover now.line) (behind_all (kinds (now ∷ past)) read.reads read.first)
    → FailsSaid may_take c l (now ∷ past)
fails_said may_take c l now past read j k before behind' first_is last_is = λ side.
    let gathered = behind histories no_events may_take past in
    let told = within histories may_take now past gathered in
    let all = behind_all (kinds (now ∷ past)) read.reads read.first in
    let first : (behind_line histories now.line gathered).flows.acked side l ≡ read.first.flows.acked side l =
    ((journals_agree l gathered j before).lines now.line).same side
    ∙ ap (λ (i : Journal Histories). i.flows.acked side l) (sym first_is) in
    let last : told.flows.acked side l ≡ all.flows.acked side l =
    ended_same (is_handover now.line) l side told all
    (behind'.same side ∙ ap (λ (i : Journal Histories). i.flows.acked side l) last_is) in
    subst (λ (es : List LifeEvent). AreFailsOf c.tx.max_retx (running es) (life_of may_take now past side l)
    (sns_told side l now)) (sym first)
    (subst (λ (es : List LifeEvent). AreFailsOf c.tx.max_retx (running (read.first.flows.acked side l)) (running es)
    (sns_told side l now)) (sym last) (read.fails side))

-- ---- by what goes on behind the group

-- no handover
pub fails_still : (may_take : MayTake) (c : BearerConfig) (l : ℕ) (now : Group) (past : List Group)
    (read : IsReadTruly may_take c l now past) (j k : Journal Histories) → is_handover now.line ≡ false
    → AgreeOn l (behind histories no_events may_take past) j
    → AgreeOn l (behind histories no_events may_take (now ∷ past)) k
    → read.first ≡ behind_line histories now.line j
    → k ≡ behind_all (kinds (now ∷ past)) read.reads read.first → FailsSaid may_take c l (now ∷ past)
fails_still may_take c l now past read j k stays before behind' first_is last_is =
    fails_said may_take c l now past read j k before behind' first_is
    (subst (λ (over : Bool). k
    ≡ behind_end histories over (behind_all (kinds (now ∷ past)) read.reads read.first)) (sym stays) last_is)

-- the bearers come
pub begins_fail : (may_take : MayTake) (past : List Group) (g : Group) (c : BearerConfig) (options : _)
    (x : BeginsCarrying may_take past g c options)
    → AgreeOn c.channel.lcid
    (behind histories no_events may_take (record g { line = lines.Bearer c options } ∷ past)) x.behind.journal
    → FailsSaid may_take c c.channel.lcid (record g { line = lines.Bearer c options } ∷ past)
begins_fail may_take past g c options x agree =
    let now : Group = record g { line = lines.Bearer c options } in
    let read = x.behind.newest in
    let before = gathered may_take past in
    fails_still may_take c c.channel.lcid now past read before x.behind.journal refl
    (record { alike = same_alike before; same = λ side. refl }) agree x.first_is
    (x.journal_is
    ∙ sym (ap (λ (xs : List ReadRecord). behind_all (kinds (now ∷ past)) xs read.first) x.reads_are ∙ x.first_is))

-- both ends move
pub moves_fail : (may_take : MayTake) (c : BearerConfig) (l : ℕ) (past : List Group) (g : Group)
    (user rrc integrity : Key) (h : IsReadBehind may_take c l past)
    (m : MovesCarrying may_take c l past g user rrc integrity h)
    → AgreeOn l (behind histories no_events may_take past) h.journal
    → AgreeOn l (behind histories no_events may_take (record g { line = lines.Handover user rrc integrity } ∷ past))
    m.behind.journal
    → FailsSaid may_take c l (record g { line = lines.Handover user rrc integrity } ∷ past)
moves_fail may_take c l past g user rrc integrity h m before agree =
    let now : Group = record g { line = lines.Handover user rrc integrity } in
    let ks = kinds (now ∷ past) in
    let read = m.behind.newest in
    let told = read_as false g.events in
    fails_said may_take c l now past read h.journal m.behind.journal before agree m.first_is
    (m.journal_is
    ∙ sym (ap (λ (xs : List ReadRecord). behind_end histories true (behind_all ks xs read.first)) m.reads_are
    ∙ ap (λ (i : Journal Histories). behind_end histories true (behind_all ks told i)) m.first_is))

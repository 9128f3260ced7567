-- What a channel of acknowledged data delivers, in each direction and through lives (TS 36.323 5.1,
-- 5.2).
use Rattle.std.specs.Prelude.{◌≡◌, ℕ, ◌<◌, ◌^◌, ◌==◌, if◌then◌else◌, Bool, true, false, Option}
use Rattle.std.specs.Prelude.{Some, None, List, [], ◌∷◌, ◌++◌, map}
use Rattle.std.specs.List.{AllByRecursion}
use Rattle.bearer_types.specs.Configs.{IsConfig}
use Rattle.bearer_types.specs.declared.config.BearerConfig.{BearerConfig}
use Rattle.bearer.specs.Bearer.{flow_of}
use Rattle.law_bearer.specs.AnyBearer.Calls.{Step as BearerStep, Calls, Restart}
use Rattle.law_bearer.specs.AnyBearer.Queue.{all_news}
use Rattle.eps_sec.specs.declared.Keys.{Keys}
use Rattle.l2_bits.specs.declared.fault.SubmitRefusal.{SubmitRefusal}
use Rattle.l2_node.specs.End.{End, fresh}
use Rattle.l2_node.specs.Finding.{has}
use Rattle.l2_node.specs.Submitting.{refusal}
use Rattle.l2_types.specs.declared.Kind.TheVariants as kinds
use Rattle.l2_types.specs.declared.side.Side.{Side}
use Rattle.l2_types.specs.declared.side.Side.TheVariants.{Nb, Ue}
use Rattle.law_node.specs.Bearers.{keys_in}
use Rattle.law_node.specs.Calls.{Call, Add, Submit, SetDiscard, AreGiven, after, run_end, reached}
use Rattle.law_node.specs.Holding.{flow}
use Rattle.law_node.specs.Telling.{told_over}
use Rattle.bearer_types.specs.Sides.{other}
use Rattle.law_words.specs.Lists.{AreFirstSdus, IsSubsequence}
use Rattle.law_deliver.specs.AmFlow.Air.{Air, HasCome, outset}
use Rattle.law_deliver.specs.AmFlow.Channels.{calls_of}
use Rattle.law_deliver.specs.AmFlow.Ups.{ups_on, AreNew}
use Rattle.promises.specs.Events.{discards_on}
use Rattle.law_deliver.specs.AmChannel.Lives.{AirStep, AreLiving, lives, end_at, all_calls}

-- ---- where a channel begins

-- an end that has come so far by any calls, where a bearer is added only to a channel that has
-- none, and has a bearer of the channel that begins
pub record HasBegun (side : Side) (l : ℕ) (c : BearerConfig) (keys : Keys) (e : End) : Type 0 where
  pub come : HasCome side e
  pub new : AreNew l come.past (fresh side come.maximum come.reports)
  pub there : has l e.bearers ≡ true
  pub bearer_is : flow l e ≡ flow_of c.kind c keys side

-- two ends, under one configuration of acknowledged data and the same keys; a COUNT has 32 bits
pub record AmEndsBeginAlike (l : ℕ) (c : BearerConfig) (keys : Keys) (nb ue : End) : Type 0 where
  pub kind : c.kind ≡ kinds.Am
  pub config : IsConfig c
  pub first : c.first < 2 ^ 32
  pub nb_begun : HasBegun Nb l c keys nb
  pub ue_begun : HasBegun Ue l c keys ue

-- ---- the SDUs of a channel, over the calls of an end

abbrev pub went_up : ℕ → List Call → End → List (List ℕ)
went_up l cs e = ups_on l (told_over cs e)

-- one that isn't refused
abbrev pub accepted : Option SubmitRefusal → Bool → List ℕ → List (List ℕ)
accepted None here octets = if here then octets ∷ [] else []
accepted (Some why) here octets = []

abbrev pub submitted_in : ℕ → End → Call → List (List ℕ)
submitted_in l e (Submit lcid octets) = accepted (refusal lcid octets e) (lcid == l) octets
submitted_in l e _ = []

abbrev pub was_submitted : ℕ → List Call → End → List (List ℕ)
was_submitted l [] e = []
was_submitted l (c ∷ cs) e = submitted_in l e c ++ was_submitted l cs (after e c)

-- calls of its bearer, and the beginning of its next life as the end moves
abbrev pub steps_in : ℕ → End → Call → List BearerStep
steps_in l e c = map (λ x. Calls x) (calls_of l e c) ++ map (λ keys. Restart keys) (keys_in c)

abbrev pub steps_over : ℕ → List Call → End → List BearerStep
steps_over l [] e = []
steps_over l (c ∷ cs) e = steps_in l e c ++ steps_over l cs (after e c)

-- those that its bearer takes for the first time
abbrev pub was_taken : ℕ → List Call → End → List (List ℕ)
was_taken l cs e = all_news (flow l e) (steps_over l cs e)

-- of none the discard timer ends (TS 36.323 5.4)
abbrev pub DiscardsNone : ℕ → List Call → End → Type 0
DiscardsNone l cs e = discards_on l (told_over cs e) ≡ []

-- a discard timer is set on the channel
abbrev pub sets_discard : ℕ → Call → Bool
sets_discard l (SetDiscard lcid ttis) = lcid == l
sets_discard l _ = false

abbrev pub SetNone : ℕ → List Call → Type 0
SetNone l cs = AllByRecursion (λ c. sets_discard l c ≡ false) cs

-- ---- through steps of both ends

abbrev pub ups_at : ℕ → Side → List AirStep → Air → List (List ℕ)
ups_at l side steps a = went_up l (all_calls side steps a) (end_at side a)

abbrev pub submitted_at : ℕ → Side → List AirStep → Air → List (List ℕ)
submitted_at l side steps a = was_submitted l (all_calls side steps a) (end_at side a)

abbrev pub taken_at : ℕ → Side → List AirStep → Air → List (List ℕ)
taken_at l side steps a = was_taken l (all_calls side steps a) (end_at side a)

abbrev pub DiscardsNoneAt : ℕ → Side → List AirStep → Air → Type 0
DiscardsNoneAt l side steps a = DiscardsNone l (all_calls side steps a) (end_at side a)

abbrev pub SetNoneAt : ℕ → Side → List AirStep → Air → Type 0
SetNoneAt l side steps a = SetNone l (all_calls side steps a)

-- ---- the laws

-- the calls of an end are what the end comes by
abbrev pub EndsGoByCalls : Type 0
EndsGoByCalls = (nb ue : End) (side : Side) (steps : List AirStep)
    → end_at side (lives steps (outset nb ue))
    ≡ run_end (all_calls side steps (outset nb ue)) (end_at side (outset nb ue))

-- a channel begins so at an end as a bearer is added
abbrev pub ChannelsBegin : Type 0
ChannelsBegin =
    (side : Side) (maximum : ℕ) (reports : Bool) (past : List Call) (c : BearerConfig)
    (keys : Keys)
    → AreGiven past → AreNew c.channel.lcid past (fresh side maximum reports)
    → has c.channel.lcid (reached side maximum reports past).bearers ≡ false → IsConfig c
    → HasBegun side c.channel.lcid c keys (after (reached side maximum reports past) (Add c keys))

-- from an end to the other: what goes up at the other are SDUs that were submitted at the one, in
-- their order, each once and unchanged
abbrev pub ChannelsDeliverInOrder : Type 0
ChannelsDeliverInOrder =
    (l : ℕ) (c : BearerConfig) (keys : Keys) (nb ue : End) (from : Side) (steps : List AirStep)
    → AmEndsBeginAlike l c keys nb ue → AreLiving l (outset nb ue) steps
    → IsSubsequence (ups_at l (other from) steps (outset nb ue))
    (submitted_at l from steps (outset nb ue))

-- of those that its bearer takes for the first time they are the first, with none left out
abbrev pub ChannelsDeliverWhatIsTaken : Type 0
ChannelsDeliverWhatIsTaken =
    (l : ℕ) (c : BearerConfig) (keys : Keys) (nb ue : End) (from : Side) (steps : List AirStep)
    → AmEndsBeginAlike l c keys nb ue → AreLiving l (outset nb ue) steps
    → AreFirstSdus (ups_at l (other from) steps (outset nb ue))
    (taken_at l from steps (outset nb ue))

-- where none is discarded, of those that were submitted
abbrev pub ChannelsDeliverUndiscarded : Type 0
ChannelsDeliverUndiscarded =
    (l : ℕ) (c : BearerConfig) (keys : Keys) (nb ue : End) (from : Side) (steps : List AirStep)
    → AmEndsBeginAlike l c keys nb ue → AreLiving l (outset nb ue) steps
    → DiscardsNoneAt l from steps (outset nb ue)
    → AreFirstSdus (ups_at l (other from) steps (outset nb ue))
    (submitted_at l from steps (outset nb ue))

-- none is where no discard timer is set
abbrev pub UnsetDiscardsNone : Type 0
UnsetDiscardsNone =
    (l : ℕ) (c : BearerConfig) (keys : Keys) (nb ue : End) (side : Side) (steps : List AirStep)
    → AmEndsBeginAlike l c keys nb ue → AreLiving l (outset nb ue) steps
    → SetNoneAt l side steps (outset nb ue) → DiscardsNoneAt l side steps (outset nb ue)

abbrev pub ChannelsDeliver : Type 0
ChannelsDeliver =
    (l : ℕ) (c : BearerConfig) (keys : Keys) (nb ue : End) (from : Side) (steps : List AirStep)
    → AmEndsBeginAlike l c keys nb ue → AreLiving l (outset nb ue) steps
    → SetNoneAt l from steps (outset nb ue)
    → AreFirstSdus (ups_at l (other from) steps (outset nb ue))
    (submitted_at l from steps (outset nb ue))

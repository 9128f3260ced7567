-- Group by group, the last new blocks of a side's processes are those that are held, and its blocks
-- fly as they should.
use Rattle.std.proofs.Common.{◌≡◌, ℕ, Bool, true, false, List, [], ◌∷◌, ◌++◌, Option, Some, None, refl, ap}
use Rattle.std.proofs.Common.{sym, ◌∙◌, subst, if◌then◌else◌}
use Rattle.std.specs.List.{filter}
use Rattle.l2_types.specs.declared.side.Side.{Side}
use Rattle.l2_types.specs.declared.side.Side.TheVariants.{Nb, Ue}
use Rattle.harq.specs.SendHistory.{last_block}
use Rattle.harq.specs.SendHistory.{IsRight as AreResent}
use Rattle.bearer_types.specs.Sides.{sent_by}
use Rattle.air_record.specs.declared.line.Line.{Line}
use Rattle.air_record.specs.declared.line.Line.TheVariants as lines
use Rattle.air_record.specs.declared.line.Outcome.{Outcome}
use Rattle.air_record.specs.Outcomes.{intact}
use Rattle.air_record.specs.declared.record.Record.{Record}
use Rattle.air_record.specs.declared.record.Record.TheVariants as records
use Rattle.air_text.specs.Groups.{Group, history}
use Rattle.law_words.specs.Sequences.{any}
use Rattle.promises.specs.Air.{ttis}
use Rattle.promises.specs.Heard.{Heard, Flight, nothing_heard, hears, heard, empties, deeds_of, visits}
use Rattle.promises.specs.Parts.{Part, Submits, Passes, Drains, Rests, part_of_line, is_handover}
use Rattle.promises.specs.RightAir.{FliesInAnyOrder, FliesInDrain, is_of_time, Ttis, HasItsTtis, AirIsRight}
use Rattle.promises.specs.RightAir.{GroupIsRight}
use Rattle.journal_air.proofs.Tellings.{heard_append}
use Rattle.law_sound.proofs.Flying.{Flying, all_air, AreSent}
use Rattle.law_sound.proofs.Flown.{IsTtiTold, flies_told, Processes, behind, Knows, AllResent, IsTtiFlown, ttis_flown}
use Rattle.law_sound.proofs.Flown.{tti_flown, flown_filtered, air_filtered, heard_filtered}

-- the last new blocks of processes behind groups: a handover renews them
abbrev pub blocks_behind : Side → List Group → ℕ → Option (List ℕ)
blocks_behind from [] p = None
blocks_behind from (g ∷ past) p = if is_handover g.line then None
    else (all_air from g.events (record { blocks = blocks_behind from past; last = None })).blocks p

abbrev pub begun : Side → List Group → Flying
begun from past = record { blocks = blocks_behind from past; last = None }

abbrev pub processes : Side → List Group → Processes
processes from past p = heard (sent_by from) p (history past) nothing_heard

-- ---- the TTIs of a line

joined_tti : (t : ℕ) (first second told : List Record) → told ≡ first ++ second → first ≡ records.Tti t ∷ []
    → IsTtiTold t (records.Tti t ∷ second) → IsTtiTold t told
joined_tti t first second told e is h =
    subst (IsTtiTold t) (sym (e ∙ ap (λ (l : List Record). l ++ second) is)) h

pub passes_told : (t up_grant down_grant : ℕ) (up down : Outcome) (told : List Record)
    → Ttis (any (λ asleep. FliesInAnyOrder asleep t up_grant up down_grant down)) t told → IsTtiTold t told
passes_told t up_grant down_grant up down told h =
    joined_tti t h.first h.second told h.told_are h.is_first
    (flies_told t up_grant down_grant up down h.is_second.0 h.second h.is_second.1)

pub drains_told : (grant t : ℕ) (told : List Record) → Ttis (FliesInDrain grant t) t told → IsTtiTold t told
drains_told grant t told h =
    joined_tti t h.first h.second told h.told_are h.is_first
    (flies_told t grant grant intact intact false h.second h.is_second)

none_flown : (from : Side) (told : List Record) (hs : Processes) (x : Flying) → told ≡ [] → Knows hs x.blocks
    → IsTtiFlown from told hs x
none_flown from told hs x none knows =
    subst (λ (l : List Record). IsTtiFlown from l hs x) (sym none) (record { flown = tt; knows = knows })

time_flown : (from : Side) (m t : ℕ) (p : Part) (told : List Record) → HasItsTtis t p told → (hs : Processes)
    (x : Flying) → Knows hs x.blocks → AllResent m (behind from told hs) → IsTtiFlown from told hs x
time_flown from m t (Submits side lcid octets) told h hs x knows all = none_flown from told hs x h knows
time_flown from m t (Passes up_grant up down_grant down) told h hs x knows all =
    tti_flown from m t told (passes_told t up_grant down_grant up down told h) hs x knows all
time_flown from m t (Drains grant) told h hs x knows all =
    ttis_flown from m (λ n. Ttis (FliesInDrain grant n) n) (λ n l. drains_told grant n l) t h.0 told h.1 hs x knows all
time_flown from m t Rests told h hs x knows all = none_flown from told hs x h knows

-- ---- a group

abbrev pub behind_line : Side → ℕ → Line → Processes → Processes
behind_line from number line hs p = hears (sent_by from) p (records.Line number line) (hs p)

line_knows : (from : Side) (number : ℕ) (line : Line) (hs : Processes) (f : ℕ → Option (List ℕ)) → Knows hs f
    → Knows (behind_line from number line hs) f
line_knows from number line hs f knows p octets low = by (empties line)
  where
    by : (b : Bool) → last_block (deeds_of (if b then [] else (hs p).flights)) ≡ Some octets → f p ≡ Some octets
    by true e = absurd (none octets e)
      where
        none : (o : List ℕ) → None ≡ Some o → ⊥
        none o e = cc
    by false e = knows p octets low e

-- the flights behind a group
pub group_heard : (from : Side) (g : Group) (past : List Group) (p : ℕ)
    → processes from (g ∷ past) p
    ≡ behind from (filter is_of_time g.events) (behind_line from g.number g.line (processes from past)) p
group_heard from g past p =
    heard_append (sent_by from) p (history past) (records.Line g.number g.line ∷ g.events) nothing_heard
    ∙ heard_filtered (sent_by from) p g.events
    (hears (sent_by from) p (records.Line g.number g.line) (processes from past p))

-- in a handover nothing flies
handover_rests : (line : Line) (t : ℕ) (told : List Record) → is_handover line ≡ true
    → HasItsTtis t (part_of_line line) told → told ≡ []
handover_rests (lines.Handover user rrc integrity) t told e h = h
handover_rests line t told e h = absurd (let bad = e in cc)

handover_empties : (line : Line) → is_handover line ≡ true → empties line ≡ true
handover_empties (lines.Handover user rrc integrity) e = refl
handover_empties line e = absurd (let bad = e in cc)

pub resent_of : (from : Side) (g : Group) (past : List Group) → GroupIsRight g past
    → AllResent (visits (g ∷ past)) (processes from (g ∷ past))
resent_of Nb g past h = h.is_carried.down_resent
resent_of Ue g past h = h.is_carried.up_resent

group_flown : (from : Side) (g : Group) (past : List Group) → GroupIsRight g past
    → Knows (processes from past) (blocks_behind from past)
    → IsTtiFlown from (filter is_of_time g.events) (behind_line from g.number g.line (processes from past))
    (begun from past)
group_flown from g past h knows =
    time_flown from (visits (g ∷ past)) (ttis past) (part_of_line g.line) (filter is_of_time g.events) h.ttis_are
    (behind_line from g.number g.line (processes from past)) (begun from past)
    (line_knows from g.number g.line (processes from past) (blocks_behind from past) knows)
    (λ p low. subst (λ (k : Heard). AreResent (visits (g ∷ past)) (deeds_of k.flights)) (group_heard from g past p)
    (resent_of from g past h p low))

-- behind a handover no process has a block
pub none_moved : (from : Side) (g : Group) (past : List Group) → GroupIsRight g past → (p : ℕ) (octets : List ℕ)
    → is_handover g.line ≡ true
    → last_block (deeds_of (processes from (g ∷ past) p).flights) ≡ Some octets → ⊥
none_moved from g past h p octets is e = none (sym (ap (λ (fs : List Flight). last_block (deeds_of fs)) flights) ∙ e)
  where
    none : None ≡ Some octets → ⊥
    none e' = cc

    empty : filter is_of_time g.events ≡ []
    empty = handover_rests g.line (ttis past) (filter is_of_time g.events) is h.ttis_are

    flights : (processes from (g ∷ past) p).flights ≡ []
    flights =
        ap (λ (k : Heard). k.flights) (group_heard from g past p)
        ∙ ap (λ (l : List Record). (behind from l (behind_line from g.number g.line (processes from past)) p).flights)
        empty
        ∙ ap (λ (c : Bool). if c then [] else (processes from past p).flights) (handover_empties g.line is)

group_knows : (from : Side) (g : Group) (past : List Group) → GroupIsRight g past
    → Knows (processes from past) (blocks_behind from past)
    → Knows (processes from (g ∷ past)) (blocks_behind from (g ∷ past))
group_knows from g past h knows p octets low e = by (is_handover g.line) refl
  where
    by : (b : Bool) → is_handover g.line ≡ b
        → (if b then None else (all_air from g.events (begun from past)).blocks p) ≡ Some octets
    by true is = absurd (none_moved from g past h p octets is e)
    by false is =
        ap (λ (y : Flying). y.blocks p) (air_filtered from g.events (begun from past))
        ∙ (group_flown from g past h knows).knows p octets low
        (sym (ap (λ (k : Heard). last_block (deeds_of k.flights)) (group_heard from g past p)) ∙ e)

none_known : (from : Side) → Knows (processes from []) (blocks_behind from [])
none_known from p octets low e = absurd (none octets e)
  where
    none : (o : List ℕ) → None ≡ Some o → ⊥
    none o e = cc

known : (from : Side) (past : List Group) → AirIsRight past → Knows (processes from past) (blocks_behind from past)
known from [] h = none_known from
known from (g ∷ past) h = group_knows from g past h.0 (known from past h.1)

pub all_sent : (from : Side) (g : Group) (past : List Group) → AirIsRight (g ∷ past)
    → AreSent from g.events (begun from past)
all_sent from g past h =
    flown_filtered from g.events (begun from past) (group_flown from g past h.0 (known from past h.1)).flown

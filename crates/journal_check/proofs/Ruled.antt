-- What the rules of lines say of the bearers of a journal.
use Rattle.std.proofs.Common.{◌≡◌, ◌==◌, ◌≤◌, ℕ, Bool, true, false, not, ◌&&◌, ◌||◌, if◌then◌else◌, List, [], ◌∷◌}
use Rattle.std.proofs.Common.{Option, Some, None, is_some, refl, ap, ◌∙◌, arith}
use Rattle.std.proofs.lemmas.Bool.{and_parts, eqb-true}
use Rattle.air_record.specs.declared.line.Line.{Line}
use Rattle.air_record.specs.declared.line.Line.TheVariants as lines
use Rattle.air_text.specs.Groups.{Group}
use Rattle.bearer_types.specs.declared.config.BearerConfig.{BearerConfig}
use Rattle.promises.specs.Configs.{config_by, config_of}
use Rattle.journal_flows.specs.Laws.{bearer_by, bearer_on}
use Rattle.journal_form.specs.Lines.{HasLayout}
use Rattle.journal_queues.specs.QueueLaws as queues
use Rattle.promises.specs.LineRules.{is_early, is_tm, has_line, has_bearer, is_keys, keeps_rules}
use Rattle.journal_check.specs.Checked.{AreRuled}

none_before : (o : Option BearerConfig) → not (is_some o) ≡ true → o ≡ None
none_before None h = refl
none_before (Some config) h = cc

-- each line has its layout, and each bearer comes to a channel that had none

pub layouts : (past : List Group) → AreRuled past → queues.HaveLayouts past
layouts [] h = tt
layouts (now ∷ past) h = (h.0, layouts past h.2)

comes_new : (past : List Group) (line : Line) → keeps_rules past line ≡ true → queues.ComesNew line past
comes_new past (lines.Bearer config options) h =
    let late = and_parts (is_early past) (not (has_bearer config.channel.lcid past)
    && (is_tm config.kind || has_line is_keys past)) h in
    let new = and_parts (not (has_bearer config.channel.lcid past))
    (is_tm config.kind || has_line is_keys past) late.1 in
    none_before (config_of config.channel.lcid past) new.0
comes_new past line h = tt

pub bearers_new : (past : List Group) → AreRuled past → queues.BearersAreNew past
bearers_new [] h = tt
bearers_new (now ∷ past) h = (comes_new past now.line h.1, bearers_new past h.2)

-- ---- the bearer of a channel

same_by : (lcid : ℕ) (line : Line) (o : Option BearerConfig) → config_by lcid line o ≡ bearer_by line lcid o
same_by lcid (lines.Bearer config options) o = refl
same_by lcid line o = refl

pub same_bearer : (lcid : ℕ) (past : List Group) → config_of lcid past ≡ bearer_on lcid past
same_bearer lcid [] = refl
same_bearer lcid (now ∷ past) =
    ap (config_by lcid now.line) (same_bearer lcid past) ∙ same_by lcid now.line (bearer_on lcid past)

-- which is 10 at most
low_line : (lcid : ℕ) (line : Line) (o : Option BearerConfig) (config : BearerConfig) → HasLayout line
    → (o ≡ Some config → lcid ≤ 10) → config_by lcid line o ≡ Some config → lcid ≤ 10
low_line lcid (lines.Bearer found options) o config lay before e = by (found.channel.lcid == lcid) refl e
  where
    by : (b : Bool) → (found.channel.lcid == lcid) ≡ b → (if b then Some found else o) ≡ Some config → lcid ≤ 10
    by true is e =
        let same : found.channel.lcid ≡ lcid = eqb-true found.channel.lcid lcid is in omega (arith, same, lay.0)
    by false is e = before e
low_line lcid line o config lay before e = before e

pub low_bearer : (lcid : ℕ) (past : List Group) (config : BearerConfig) → AreRuled past
    → config_of lcid past ≡ Some config → lcid ≤ 10
low_bearer lcid [] config h e = cc
low_bearer lcid (now ∷ past) config h e =
    low_line lcid now.line (config_of lcid past) config h.0 (λ before. low_bearer lcid past config h.2 before) e

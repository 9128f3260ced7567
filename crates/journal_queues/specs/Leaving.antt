-- SDUs of a queue by their lengths: those that are told of as they leave it, beside those that were
-- submitted to it.
use Rattle.std.specs.Prelude.{ℕ, ◌==◌, Bool, true, false, not, ◌&&◌, ◌||◌, List, [], ◌∷◌, ◌++◌}
use Rattle.std.specs.Prelude.{length, Option, Some, None, option_map}
use Rattle.l2_types.specs.declared.channel.Kind.{Kind}
use Rattle.l2_types.specs.declared.channel.Kind.TheVariants.{Tm, Srb, Um, Am}

pub record Leaving : Type 0 where
  -- each that is told of and was submitted has the length of the SDU in its place
  pub same : Bool
  -- those that were submitted and of which nothing is told
  pub waiting : List ℕ
  -- those that are told of before they were submitted
  pub told : List ℕ

abbrev pub none_left : Leaving
none_left = record { same = true; waiting = []; told = [] }

-- one is told of, taken or discarded
abbrev pub told_by : ℕ → List ℕ → Leaving → Leaving
told_by len [] l = record l { told = l.told ++ len ∷ [] }
told_by len (first ∷ waiting) l =
    record l { same = l.same && (first == len); waiting = waiting }

abbrev pub with_told : ℕ → Leaving → Leaving
with_told len l = told_by len l.waiting l

-- one is submitted
abbrev pub sdu_by : ℕ → List ℕ → Leaving → Leaving
sdu_by len [] l = record l { waiting = l.waiting ++ len ∷ [] }
sdu_by len (first ∷ told) l = record l { same = l.same && (len == first); told = told }

abbrev pub with_sdu : ℕ → Leaving → Leaving
with_sdu len l = sdu_by len l.told l

-- those that are told of are the first of those that were submitted
abbrev pub is_even : Leaving → Bool
is_even l = l.same && (length l.told == 0)

-- ---- of a side and a channel: through all lives, and in the life that runs, as far as the kind of
-- its bearer has to be judged so

pub record Queue : Type 0 where
  pub all : Option Leaving
  pub life : Option Leaving
  -- a bearer has begun
  pub begun : Bool

abbrev pub no_bearer : Queue
no_bearer = record { all = Some none_left; life = Some none_left; begun = false }

abbrev pub queue_told : ℕ → Queue → Queue
queue_told len q = record q {
  all = option_map (with_told len) q.all;
  life = option_map (with_told len) q.life;
}

abbrev pub queue_given : ℕ → Queue → Queue
queue_given len q = record q {
  all = option_map (with_sdu len) q.all;
  life = option_map (with_sdu len) q.life;
}

-- another life begins
abbrev pub handed_over : Queue → Queue
handed_over q = record q { life = option_map (λ l. none_left) q.life }

-- a bearer begins
abbrev pub begun_as : Kind → Queue → Queue
begun_as Um q = record q { life = None; begun = true }
begun_as Am q = record q { all = None; life = None; begun = true }
begun_as Tm q = record q { all = None; begun = true }
begun_as Srb q = record q { all = None; begun = true }

abbrev pub is_even_in : Option Leaving → Bool
is_even_in None = true
is_even_in (Some l) = is_even l

abbrev pub is_queue_right : Queue → Bool
is_queue_right q = not q.begun || (is_even_in q.all && is_even_in q.life)

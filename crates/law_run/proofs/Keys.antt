-- The keys of a run are those that its lines gave, and a line gives only others.
use Rattle.std.proofs.Common.{◌≡◌, ℕ, Bool, true, false, ◌||◌, Option, Some, None, is_some, is_none, List, [], ◌∷◌}
use Rattle.std.proofs.Common.{◌++◌, Ordering, Less, Equal, Greater, refl, ap, sym, ◌∙◌, subst, inl, inr}
use Rattle.std.proofs.lemmas.Bool.{or_left, or_right, or_cases}
use Rattle.std.proofs.lemmas.Map.Text.{is_eq-slice_cmp}
use Rattle.std.proofs.lemmas.Slice.Eq.{bytes_eq-Decides}
use Rattle.std.specs.Bool.{Decides}
use Rattle.std.specs.Cmp.Lexicographic.{slice_cmp}
use Rattle.std.specs.List.{AllByRecursion}
use Rattle.std.specs.Ordering.{nat_cmp, is_eq, match_ordering}
use Rattle.std.specs.Str.{bytes_eq}
use Rattle.air_link.specs.Link.{Link}
use Rattle.air_record.specs.declared.line.Line.{Line}
use Rattle.air_record.specs.declared.line.Line.TheVariants as lines
use Rattle.air_run.specs.declared.refusal.RunRefusal.{RunRefusal}
use Rattle.air_run.specs.declared.refusal.RunRefusal.TheVariants.{KeyUsed, NoKeys, TimerIdle}
use Rattle.air_run.specs.Rules.{Rules, is_used, with_key, are_equal, is_any_used, refused_if, or_else, late_or_twice}
use Rattle.air_run.specs.Rules.{rule_broken, is_idle, refusal, accepted}
use Rattle.air_text.specs.Groups.{Group}
use Rattle.eps_sec.specs.declared.Key.{Key}
use Rattle.prioritise.proofs.ChannelLemmas.{both_false}
use Rattle.promises.specs.Keys.{keys_of, all_keys}
use Rattle.law_words.specs.Lists.{AreDistinct}
use Rattle.law_run.specs.Order.{state_behind, KeepsOrder}

-- ---- keys that are used

same_is_used : (k : List ℕ) → is_eq (slice_cmp nat_cmp k k) ≡ true
same_is_used k = is_eq-slice_cmp k k ∙ same (bytes_eq k k) (bytes_eq-Decides k k)
  where
    same : (b : Bool) → Decides b (k ≡ k) → b ≡ true
    same b d = d.1 refl

-- a new one is used
here_by : (o : Ordering) (k x : List ℕ) (xs more : List (List ℕ)) → slice_cmp nat_cmp k x ≡ o → is_used k more ≡ true
    → is_used k (match_ordering o (k ∷ x ∷ xs) (x ∷ xs) (x ∷ more)) ≡ true
here_by Less k x xs more e h = or_left (is_eq (slice_cmp nat_cmp k k)) (is_used k (x ∷ xs)) (same_is_used k)
here_by Equal k x xs more e h = or_left (is_eq (slice_cmp nat_cmp k x)) (is_used k xs) (ap is_eq e)
here_by Greater k x xs more e h = or_right (is_eq (slice_cmp nat_cmp k x)) (is_used k more) h

with_here : (k : List ℕ) (used : List (List ℕ)) → is_used k (with_key k used) ≡ true
with_here k [] = or_left (is_eq (slice_cmp nat_cmp k k)) false (same_is_used k)
with_here k (x ∷ xs) = here_by (slice_cmp nat_cmp k x) k x xs (with_key k xs) refl (with_here k xs)

-- and so is each that was
still_by : (o : Ordering) (j k x : List ℕ) (xs more : List (List ℕ)) → is_used k (x ∷ xs) ≡ true
    → (is_used k xs ≡ true → is_used k more ≡ true)
    → is_used k (match_ordering o (j ∷ x ∷ xs) (x ∷ xs) (x ∷ more)) ≡ true
still_by Less j k x xs more h next = or_right (is_eq (slice_cmp nat_cmp k j)) (is_used k (x ∷ xs)) h
still_by Equal j k x xs more h next = h
still_by Greater j k x xs more h next = elim (or_cases (is_eq (slice_cmp nat_cmp k x)) (is_used k xs) h) [
  | inl here ↦ or_left (is_eq (slice_cmp nat_cmp k x)) (is_used k more) here
  | inr there ↦ or_right (is_eq (slice_cmp nat_cmp k x)) (is_used k more) (next there)
]

with_still : (j k : List ℕ) (used : List (List ℕ)) → is_used k used ≡ true → is_used k (with_key j used) ≡ true
with_still j k [] h = absurd cc
with_still j k (x ∷ xs) h = still_by (slice_cmp nat_cmp j x) j k x xs (with_key j xs) h (with_still j k xs)

-- ---- more keys

abbrev with_all : List (List ℕ) → List (List ℕ) → List (List ℕ)
with_all [] used = used
with_all (k ∷ ks) used = with_all ks (with_key k used)

abbrev AreUsed : List (List ℕ) → List (List ℕ) → Type 0
AreUsed used keys = AllByRecursion (λ k. is_used k used ≡ true) keys

abbrev AreUnused : List (List ℕ) → List (List ℕ) → Type 0
AreUnused used keys = AllByRecursion (λ k. is_used k used ≡ false) keys

still_all : (ks : List (List ℕ)) (k : List ℕ) (used : List (List ℕ)) → is_used k used ≡ true
    → is_used k (with_all ks used) ≡ true
still_all [] k used h = h
still_all (j ∷ ks) k used h = still_all ks k (with_key j used) (with_still j k used h)

used_more : (j : List ℕ) (used keys : List (List ℕ)) → AreUsed used keys → AreUsed (with_key j used) keys
used_more j used [] h = tt
used_more j used (k ∷ keys) h = (with_still j k used h.0, used_more j used keys h.1)

all_used : (ks used keys : List (List ℕ)) → AreUsed used keys → AreUsed (with_all ks used) (ks ++ keys)
all_used [] used keys h = h
all_used (k ∷ ks) used keys h = (
  still_all ks k (with_key k used) (with_here k used),
  all_used ks (with_key k used) keys (used_more k used keys h),
)

-- ---- keys that weren't used are other than those

apart : (k : List ℕ) (used keys : List (List ℕ)) → is_used k used ≡ false → AreUsed used keys
    → AllByRecursion (λ other. k ≡ other → ⊥) keys
apart k used [] e h = tt
apart k used (j ∷ keys) e h = (
  λ same. let no : false ≡ true = sym e ∙ ap (λ (i : List ℕ). is_used i used) same ∙ h.0 in
      cc,
  apart k used keys e h.1,
)

both_apart : (k : List ℕ) (xs ys : List (List ℕ)) → AllByRecursion (λ other. k ≡ other → ⊥) xs
    → AllByRecursion (λ other. k ≡ other → ⊥) ys → AllByRecursion (λ other. k ≡ other → ⊥) (xs ++ ys)
both_apart k [] ys p q = q
both_apart k (x ∷ xs) ys p q = (p.0, both_apart k xs ys p.1 q)

distinct_more : (ks used keys : List (List ℕ)) → AreDistinct ks → AreUnused used ks → AreUsed used keys
    → AreDistinct keys → AreDistinct (ks ++ keys)
distinct_more [] used keys d n h e = e
distinct_more (k ∷ ks) used keys d n h e =
    (both_apart k ks keys d.0 (apart k used keys n.0 h), distinct_more ks used keys d.1 n.1 h e)

-- ---- a line that isn't refused

abbrev three : Key → Key → Key → List (List ℕ)
three user rrc integrity = user.octets ∷ rrc.octets ∷ integrity.octets ∷ []

record AreNew (used keys : List (List ℕ)) : Type 0 where
  unused : AreUnused used keys
  distinct : AreDistinct keys

none_new : (used : List (List ℕ)) → AreNew used []
none_new used = record { unused = tt; distinct = tt }

differ : (a b : List ℕ) → bytes_eq a b ≡ false → a ≡ b → ⊥
differ a b e same = by (bytes_eq a b) (bytes_eq-Decides a b) e
  where
    by : (t : Bool) → Decides t (a ≡ b) → t ≡ false → ⊥
    by t d f = let no : true ≡ false = sym (d.1 same) ∙ f in cc

three_new : (user rrc integrity : Key) (used : List (List ℕ)) → is_any_used user rrc integrity used ≡ false
    → AreNew used (three user rrc integrity)
three_new user rrc integrity used e =
    let a = is_used user.octets used in
    let b = is_used rrc.octets used in
    let c = is_used integrity.octets used in
    let p = are_equal user rrc in
    let q = are_equal user integrity in
    let r = are_equal rrc integrity in
    let both = both_false (a || (b || c)) (p || (q || r)) e in
    let first = both_false a (b || c) both.0 in
    let second = both_false b c first.1 in
    let third = both_false p (q || r) both.1 in
    let fourth = both_false q r third.1 in
    record {
      unused = (first.0, (second.0, (second.1, tt)));
      distinct = (
        (differ user.octets rrc.octets third.0, (differ user.octets integrity.octets fourth.0, tt)),
        ((differ rrc.octets integrity.octets fourth.1, tt), (tt, tt)),
      );
    }

pub not_first : (a b : Option RunRefusal) → or_else a b ≡ None → a ≡ None
not_first None b e = refl
not_first (Some why) b e = cc

pub not_second : (a b : Option RunRefusal) → or_else a b ≡ None → b ≡ None
not_second None b e = e
not_second (Some why) b e = cc

pub no_cause : (cause : Bool) (why : RunRefusal) → refused_if cause why ≡ None → cause ≡ false
no_cause true why e = cc
no_cause false why e = refl

broken_new : (line : Line) (r : Rules) (l : Link) → rule_broken line r l ≡ None → AreNew r.used (keys_of line)
unfolding rule_broken
broken_new (lines.Keys keys) r l e =
    three_new keys.user keys.rrc keys.integrity r.used
    (no_cause (is_any_used keys.user keys.rrc keys.integrity r.used) KeyUsed
    (not_second (late_or_twice (is_some r.keys) r) _ e))
broken_new (lines.Handover user rrc integrity) r l e =
    three_new user rrc integrity r.used
    (no_cause (is_any_used user rrc integrity r.used) KeyUsed
    (not_second (refused_if (is_none r.keys) NoKeys) _ e))
broken_new (lines.Harq visits) r l e = none_new r.used
broken_new lines.Bsr r l e = none_new r.used
broken_new (lines.Bearer config options) r l e = none_new r.used
broken_new (lines.Submit side lcid octets) r l e = none_new r.used
broken_new (lines.Tti up_grant up down_grant down) r l e = none_new r.used
broken_new (lines.Expire side lcid clock) r l e = none_new r.used
broken_new lines.LoopOff r l e = none_new r.used
broken_new (lines.LoopA size) r l e = none_new r.used
broken_new (lines.LoopB delay) r l e = none_new r.used
broken_new (lines.Drain grant) r l e = none_new r.used
broken_new (lines.Forge side octets) r l e = none_new r.used
broken_new lines.End r l e = none_new r.used
broken_new (lines.Discard lcid ttis) r l e = none_new r.used
broken_new (lines.Drx config) r l e = none_new r.used

allowed_new : (line : Line) (r : Rules) (l : Link) → refusal line r l ≡ None → AreNew r.used (keys_of line)
allowed_new line r l e =
    broken_new line r l (not_first (rule_broken line r l) (refused_if (is_idle line l) TimerIdle) e)

used_after : (line : Line) (r : Rules) → (accepted line r).used ≡ with_all (keys_of line) r.used
unfolding accepted
used_after (lines.Keys keys) r = refl
used_after (lines.Handover user rrc integrity) r = refl
used_after (lines.Harq visits) r = refl
used_after lines.Bsr r = refl
used_after (lines.Bearer config options) r = refl
used_after (lines.Submit side lcid octets) r = refl
used_after (lines.Tti up_grant up down_grant down) r = refl
used_after (lines.Expire side lcid clock) r = refl
used_after lines.LoopOff r = refl
used_after (lines.LoopA size) r = refl
used_after (lines.LoopB delay) r = refl
used_after (lines.Drain grant) r = refl
used_after (lines.Forge side octets) r = refl
used_after lines.End r = refl
used_after (lines.Discard lcid ttis) r = refl
used_after (lines.Drx config) r = refl

-- ---- behind the groups of a journal

pub record KeysBehind (past : List Group) : Type 0 where
  pub used : AreUsed (state_behind past).rules.used (all_keys past)
  pub distinct : AreDistinct (all_keys past)

pub keys_behind : (past : List Group) → KeepsOrder past → KeysBehind past
keys_behind [] order = record { used = tt; distinct = tt }
keys_behind (g ∷ past) (right, order) =
    let k = keys_behind past order in
    let s = state_behind past in
    let n = allowed_new g.line s.rules s.link right.allowed in
    record {
      used =
          subst (λ (u : List (List ℕ)). AreUsed u (keys_of g.line ++ all_keys past)) (sym (used_after g.line s.rules))
          (all_used (keys_of g.line) s.rules.used (all_keys past) k.used);
      distinct = distinct_more (keys_of g.line) s.rules.used (all_keys past) n.distinct n.unused k.used k.distinct;
    }

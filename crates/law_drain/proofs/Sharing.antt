-- Where channels need some of a grant, the bearer of one of them writes.
use Rattle.std.proofs.Common.{◌≡◌, ◌<◌, ◌≤◌, inl, inr, ℕ, ◌+◌, ◌-◌, ◌*◌, ◌==◌, min, Bool, true, false, List}
use Rattle.std.proofs.Common.{[], ◌∷◌, length, get_or, get_or-set_same, get_or-set_other, Option, Some, None, refl}
use Rattle.std.proofs.Common.{option_map}
use Rattle.std.proofs.Common.{ap, sym, subst, ◌∙◌, ◌^◌, if◌then◌else◌, arith, nat_lt}
use Rattle.std.specs.Prelude.{slice_get}
use Rattle.std.specs.List.{IsDistinct}
use Rattle.std.proofs.lemmas.Bool.{cases_lt}
use Rattle.std.proofs.lemmas.Bool.Decides.{nat_tests}
use Rattle.bearer.specs.Sums.{need}
use Rattle.bearer.specs.Taking.{pdus}
use Rattle.bearer.specs.declared.flow.Flow.{Flow}
use Rattle.bearer.specs.declared.flow.Flow.TheVariants.{Tm, Um, Am}
use Rattle.l2_types.specs.declared.channel.Channel.{Channel}
use Rattle.prioritise.specs.Channels.{AreSound, has}
use Rattle.prioritise.specs.Shares.{Bucketed, Giving, over, bounded, first_part, first_given, round_one, second_part}
use Rattle.prioritise.specs.Shares.{second_given, round_two, ungiven, first_shared, shared, allotted}
use Rattle.prioritise.specs.ShareLaws.{IsSound, IsOneOf, IsShared}
use Rattle.prioritise.proofs.ChannelLemmas.{both_false, apart_has}
use Rattle.prioritise.proofs.ShareLemmas.{shared_by}
use Rattle.rlc_um.specs.Transparent.{Transparent, needed}
use Rattle.law_drain.specs.Grants.{HasEvenShare, Suffices}
use Rattle.law_drain.specs.Sharing.{is_transparent, IsServedFirst, AreNeeds, WritesByShare}
use Rattle.law_drain.specs.Sharing.{GrantsAreUsed}
use Rattle.law_drain.proofs.Grants.{one-length, one_share_is_even}
use Rattle.law_drain.proofs.MetNeeds.{met_needs_write}
use Rattle.law_drain.proofs.Used.{shares_are_used}

-- ---- the channel that stands first, with an infinite rate, gets what it needs

-- others leave its share
one-others : (cs : List Channel) (needs : List ℕ) (g : Giving) (l : ℕ) → has l cs ≡ false
    → get_or (round_one cs needs g).shares l 0 ≡ get_or g.shares l 0
one-others [] needs g l e = refl
one-others (c ∷ cs) needs g l e =
    let b = both_false (l == c.lcid) (has l cs) e in
    let apart : l ≡ c.lcid → ⊥ = grind (arith, nat_tests) in
    one-others cs needs (first_given c (first_part c needs g) g) l b.1
    ∙ get_or-set_other g.shares c.lcid l (first_part c needs g) 0 apart

two-others : (cs : List Channel) (needs : List ℕ) (g : Giving) (l : ℕ) → has l cs ≡ false
    → get_or (round_two cs needs g).shares l 0 ≡ get_or g.shares l 0
two-others [] needs g l e = refl
two-others (c ∷ cs) needs g l e =
    let b = both_false (l == c.lcid) (has l cs) e in
    let apart : l ≡ c.lcid → ⊥ = grind (arith, nat_tests) in
    two-others cs needs (second_given c (second_part c needs g) g) l b.1
    ∙ get_or-set_other g.shares c.lcid l (get_or g.shares c.lcid 0 + second_part c needs g) 0 apart

-- no other channel has its LCID
record StandsApart (c : Channel) (cs : List Channel) : Type 0 where
  low : c.lcid < 11
  apart : has c.lcid cs ≡ false

stands-apart : (c : Channel) (cs : List Channel) → AreSound (c ∷ cs) → StandsApart c cs
unfolding IsDistinct
stands-apart c cs s =
    record { low = s.within 0 c (omega arith); apart = apart_has c.lcid cs s.distinct.0 }

first-one : (c : Channel) (cs : List Channel) (needs : List ℕ) (g : Giving) → StandsApart c cs → length g.shares ≡ 11
    → c.pbr ≡ None → get_or needs c.lcid 0 ≤ g.left
    → get_or (round_one (c ∷ cs) needs g).shares c.lcid 0 ≡ get_or needs c.lcid 0
first-one c cs needs g s eleven free fits =
    let least : min (get_or needs c.lcid 0) g.left ≡ get_or needs c.lcid 0 = omega (arith, fits) in
    let part : first_part c needs g ≡ get_or needs c.lcid 0 =
    ap (λ (p : Option ℕ). bounded p (get_or g.levels c.lcid 0) (min (get_or needs c.lcid 0) g.left)) free ∙ least in
    one-others cs needs (first_given c (first_part c needs g) g) c.lcid s.apart
    ∙ get_or-set_same g.shares c.lcid (first_part c needs g) 0 (omega (arith, eleven, s.low)) ∙ part

first-two : (c : Channel) (cs : List Channel) (needs : List ℕ) (g : Giving) → StandsApart c cs → length g.shares ≡ 11
    → get_or g.shares c.lcid 0 ≤ get_or (round_two (c ∷ cs) needs g).shares c.lcid 0
first-two c cs needs g s eleven =
    let rest = two-others cs needs (second_given c (second_part c needs g) g) c.lcid s.apart in
    let here = get_or-set_same g.shares c.lcid (get_or g.shares c.lcid 0 + second_part c needs g) 0
    (omega (arith, eleven, s.low)) in
    omega (arith, rest, here)

first-gets : (b : Bucketed) (needs : List ℕ) (grant : ℕ) (c : Channel) → IsSound b → IsServedFirst c b.channels
    → get_or needs c.lcid 0 ≤ grant → get_or needs c.lcid 0 ≤ get_or (allotted b needs grant) c.lcid 0
unfolding allotted shared first_shared
first-gets b needs grant c sound first fits =
    let all = first.channels_are in
    let s = stands-apart c first.others (subst AreSound all sound.channels) in
    let g = ungiven b grant in
    let h = round_one (c ∷ first.others) needs g in
    let one = first-one c first.others needs g s refl first.free fits in
    let two = first-two c first.others needs h s (one-length (c ∷ first.others) needs g) in
    subst (λ (cs : List Channel). get_or needs c.lcid 0
    ≤ get_or (round_two cs needs (round_one cs needs g)).shares c.lcid 0) (sym all)
    (omega (arith, one, two))

-- ---- a transparent bearer needs no more than there is

needed-most : (grant : ℕ) (o : Option ℕ) → needed grant o ≤ grant + 2
needed-most grant None = omega arith
needed-most grant (Some len) = by (nat_lt (grant + 2) (3 + len)) refl
  where
    by : (t : Bool) → nat_lt (grant + 2) (3 + len) ≡ t
        → (if t then 0 else min (3 + len) (2 ^ 32 - 1)) ≤ grant + 2
    by true e = omega arith
    by false e = let fits : 3 + len ≤ grant + 2 = grind (arith, nat_tests, e) in omega (arith, fits)

transparent-most : (t : Transparent) (grant : ℕ) → need (Tm t) grant None ≤ grant + 2
unfolding need
transparent-most t grant = needed-most grant (option_map length (slice_get t.waiting 0))

-- ---- one of them writes

module _ (b : Bucketed) (flows : ℕ → Flow) (grant : ℕ) (needs : List ℕ) (sound : IsSound b) (some : 200 ≤ grant)
    (few : grant ≤ 9422) (are : AreNeeds b flows grant needs) where
  abbrev share : Channel → ℕ
  share c = get_or (allotted b needs (grant + 2)) c.lcid 0

  law : IsShared b needs (grant + 2)
  law = shared_by b needs (grant + 2) sound

  -- one that gets what it needs
  met : (c : Channel) → IsOneOf c b.channels → 0 < need (flows c.lcid) grant None
      → share c ≡ need (flows c.lcid) grant None → WritesByShare b flows grant needs
  met c one wants same = record {
    channel = c;
    one = one;
    writes = subst (λ (n : ℕ). 0 < length (pdus (flows c.lcid) n None)) (sym same)
        (met_needs_write (flows c.lcid) grant None few (are.octets c one) wants);
  }

  -- one that gets an even part
  even : (c : Channel) → IsOneOf c b.channels → grant + 2 ≤ 11 * share c → WritesByShare b flows grant needs
  even c one large = by (flows c.lcid) refl
    where
      within : share c ≤ need (flows c.lcid) grant None
      within = omega (arith, law.within_need c one, are.each c one)

      wants : 0 < need (flows c.lcid) grant None
      wants = omega (arith, some, large, within)

      used : Suffices (flows c.lcid) grant None (share c) → WritesByShare b flows grant needs
      used enough = record {
        channel = c;
        one = one;
        writes = shares_are_used (flows c.lcid) grant None (share c) few wants enough;
      }

      by : (f : Flow) → flows c.lcid ≡ f → WritesByShare b flows grant needs
      by (Tm t) e =
          let most = subst (λ (f : Flow). need f grant None ≤ grant + 2) (sym e) (transparent-most t grant) in
          let first = are.transparent c one (ap is_transparent e) wants in
          let all = first-gets b needs (grant + 2) c sound first (omega (arith, are.each c one, most)) in
          met c one wants (omega (arith, all, within, are.each c one))
      by (Um u) e = used (subst (λ (f : Flow). Suffices f grant None (share c)) (sym e) (omega (arith, some, large)))
      by (Am a) e = used (subst (λ (f : Flow). Suffices f grant None (share c)) (sym e) (omega (arith, some, large)))

pub grants_are_used : GrantsAreUsed
grants_are_used b flows grant needs c sound some few are one wants =
    elim (cases_lt (over b.channels needs) (grant + 2)) [
      | inl fits ↦
          met b flows grant needs sound some few are c one wants
          ((shared_by b needs (grant + 2) sound).enough (omega (arith, fits)) c one ∙ are.each c one)
      | inr reached ↦
          let h : HasEvenShare b needs (grant + 2) =
          one_share_is_even b needs (grant + 2) sound (omega arith) reached in
          even b flows grant needs sound some few are h.channel h.one h.share
    ]

-- The shares of a grant for a new block.
use Rattle.std.proofs.Common.{◌≡◌, ◌≤◌, ◌<◌, ℕ, suc, ◌+◌, ◌==◌, Bool, false, List, [], ◌∷◌, length, get_or, set}
use Rattle.std.proofs.Common.{get_or-set_same, get_or-set_other, replicate, refl, sym, ◌∙◌, subst, arith, inl, inr}
use Rattle.std.specs.List.{All, IsDistinct}
use Rattle.std.proofs.lemmas.Bool.Decides.{nat_tests}
use Rattle.std.proofs.Math.ListN.{length-set}
use Rattle.harq.specs.declared.sender.Order.{Order}
use Rattle.l2_types.specs.declared.channel.Channel.{Channel}
use Rattle.l2_types.specs.declared.side.Side.{Side}
use Rattle.prioritise.proofs.ChannelLemmas.{both_false, apart_has}
use Rattle.prioritise.proofs.ShareLemmas.{shared_by}
use Rattle.prioritise.specs.Channels.{lcids, has}
use Rattle.prioritise.specs.ShareLaws.{IsSound, IsOneOf}
use Rattle.l2_node.specs.Building.{visited}
use Rattle.l2_node.specs.End.{End}
use Rattle.l2_node.specs.Writing.{all_needs, needs, shares}
use Rattle.law_node.specs.Calls.{Call, AreGiven, reached}
use Rattle.law_node.specs.Sharing.{need, share, IsShared}
use Rattle.law_node.proofs.Sound.{visiting_sound}

-- the channels' LCIDs lie below 11, and no two are the same
abbrev pub Apart : List Channel → Type 0
Apart [] = Unit {0}
Apart (c ∷ cs) = (c.lcid < 11) × (has c.lcid cs ≡ false) × Apart cs

pub sound_apart : (cs : List Channel) → All (λ c. c.lcid < 11) cs → IsDistinct ◌==◌ (lcids cs) → Apart cs
unfolding IsDistinct
sound_apart [] a d = tt
sound_apart (c ∷ cs) a d =
    (a 0 c (omega arith), apart_has c.lcid cs d.0, sound_apart cs (λ k x h. a (suc k) x (omega arith)) d.1)

-- the needs by LCID are the channels' needs

others_need : (e : End) (grant : ℕ) (cs : List Channel) (found : List ℕ) (lcid : ℕ) → has lcid cs ≡ false
    → get_or (all_needs e grant cs found) lcid 0 ≡ get_or found lcid 0
others_need e grant [] found lcid h = refl
others_need e grant (c ∷ cs) found lcid h =
    let b = both_false (lcid == c.lcid) (has lcid cs) h in
    let apart : lcid ≡ c.lcid → ⊥ = grind (arith, nat_tests) in
    others_need e grant cs (set found c.lcid (need e grant c)) lcid b.1
    ∙ get_or-set_other found c.lcid lcid (need e grant c) 0 apart

one_needs : (e : End) (grant : ℕ) (cs : List Channel) (found : List ℕ) → length found ≡ 11 → Apart cs → (c : Channel)
    → IsOneOf c cs → get_or (all_needs e grant cs found) c.lcid 0 ≡ need e grant c
one_needs e grant [] found l a c o = absurd o
one_needs e grant (d ∷ cs) found l a c (inl same) =
    let first = others_need e grant cs (set found d.lcid (need e grant d)) d.lcid a.1
    ∙ get_or-set_same found d.lcid (need e grant d) 0 (omega (arith, a.0)) in
    subst (λ (x : Channel). get_or (all_needs e grant cs (set found d.lcid (need e grant d))) x.lcid 0
    ≡ need e grant x) (sym same) first
one_needs e grant (d ∷ cs) found l a c (inr there) =
    one_needs e grant cs (set found d.lcid (need e grant d)) (length-set found d.lcid (need e grant d) ∙ l) a.2 c
    there

needs_are : (e : End) (grant : ℕ) → IsSound e.buckets → (c : Channel) → IsOneOf c e.buckets.channels
    → get_or (needs e grant) c.lcid 0 ≡ need e grant c
unfolding needs
needs_are e grant s c o =
    one_needs e grant e.buckets.channels (replicate 11 0) refl
    (sound_apart e.buckets.channels s.channels.within s.channels.distinct) c o

pub shared_of : (e : End) (grant : ℕ) → IsSound e.buckets → IsShared e grant
unfolding shares
shared_of e grant s =
    let h = shared_by e.buckets (needs e grant) (grant + 2) s in
    record {
      within_grant = h.within_grant;
      within_need = λ c o. subst (λ (n : ℕ). share e grant c ≤ n) (needs_are e grant s c o) (h.within_need c o);
      enough = λ most c o. h.enough most c o ∙ needs_are e grant s c o;
      none = h.none;
    }

pub shares_are_within_the_grant : (side : Side) (maximum : ℕ) (reports : Bool) (calls : List Call) → AreGiven calls
    → (tti : ℕ) (order : Order) (grant : ℕ) → IsShared (visited tti order (reached side maximum reports calls)) grant
shares_are_within_the_grant side maximum reports calls g tti order grant =
    shared_of (visited tti order (reached side maximum reports calls)) grant
    (visiting_sound side maximum reports calls tti order g)

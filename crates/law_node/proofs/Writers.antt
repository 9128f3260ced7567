-- What bearers give as they write, one after the other: none is changed by another.
use Rattle.std.proofs.Common.{◌≡◌, ℕ, ◌==◌, if◌then◌else◌, Bool, true, false, Option, List, [], ◌∷◌, ◌++◌, refl, ap}
use Rattle.std.proofs.Common.{◌∙◌, arith}
use Rattle.std.proofs.lemmas.Bool.Decides.{nat_tests}
use Rattle.bearer.specs.Bearer.{Of, of, Life, alive}
use Rattle.bearer.specs.Taking.{after}
use Rattle.l2_types.specs.declared.channel.Channel.{Channel}
use Rattle.prioritise.proofs.ChannelLemmas.{both_false}
use Rattle.prioritise.specs.Channels.{has as has_channel}
use Rattle.l2_node.specs.Finding.{find, has, bearer_at}
use Rattle.l2_node.specs.Writing.{Work, writes}
use Rattle.law_node.proofs.Places.{has_set, found, found_other}

-- one bearer writes: the others stay
pub record Stays (m : ℕ) (bs bs' : List (Of Life)) : Type 0 where
  pub has_is : has m bs' ≡ has m bs
  pub bearer_is : has m bs ≡ true → bearer_at bs' (find m bs') ≡ bearer_at bs (find m bs)

pub stays_by : (l share m : ℕ) (held : Option ℕ) (w : Work) (t : Bool) → has l w.bearers ≡ t → (m ≡ l → ⊥)
    → Stays m w.bearers (writes l share held w).bearers
stays_by l share m held w false h apart = rw h (record { has_is = refl; bearer_is = λ k. refl })
stays_by l share m held w true h apart =
    let b = bearer_at w.bearers (find l w.bearers) in
    let x = of b.channel (alive (after b.state.flow share held)) in
    rw h (record {
      has_is = has_set m w.bearers (find l w.bearers) x refl;
      bearer_is = λ k. found_other m l w.bearers x apart k h (found l w.bearers h);
    })

module _ {X : Type 0} where
  -- what the bearer of a channel gives, and all of them, as they stand
  abbrev pub one_by : (Of Life → Channel → List X) → List (Of Life) → Channel → List X
  one_by g bs c = if has c.lcid bs then g (bearer_at bs (find c.lcid bs)) c else []

  abbrev pub all_by : (Of Life → Channel → List X) → List (Of Life) → List Channel → List X
  all_by g bs [] = []
  all_by g bs (c ∷ cs) = one_by g bs c ++ all_by g bs cs

  one_same : (g : Of Life → Channel → List X) (bs bs' : List (Of Life)) (c : Channel) (t : Bool) → has c.lcid bs ≡ t
      → Stays c.lcid bs bs' → one_by g bs' c ≡ one_by g bs c
  one_same g bs bs' c true h s = rw (s.has_is, h) (ap (λ (b : Of Life). g b c) (s.bearer_is h))
  one_same g bs bs' c false h s = rw (s.has_is, h) refl

  pub all_same : (g : Of Life → Channel → List X) (w : Work) (l share : ℕ) (held : Option ℕ) (cs : List Channel)
      → has_channel l cs ≡ false → all_by g (writes l share held w).bearers cs ≡ all_by g w.bearers cs
  all_same g w l share held [] e = refl
  all_same g w l share held (c ∷ cs) e =
      let b = both_false (l == c.lcid) (has_channel l cs) e in
      let apart : c.lcid ≡ l → ⊥ = grind (arith, nat_tests) in
      let s = stays_by l share c.lcid held w (has l w.bearers) refl apart in
      let one = one_same g w.bearers (writes l share held w).bearers c (has c.lcid w.bearers) refl s in
      ap (λ (ss : List X). ss ++ all_by g (writes l share held w).bearers cs) one
      ∙ ap (λ (ss : List X). one_by g w.bearers c ++ ss) (all_same g w l share held cs b.1)

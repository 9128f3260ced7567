-- What a round of a drain takes off the measure of a link, all channels of a list.
use Rattle.std.proofs.Common.{◌≡◌, ◌⊎◌, ◌<◌, ◌≤◌, ℕ, ◌+◌, ◌==◌, Bool, true, false, ◌||◌, List, [], ◌∷◌}
use Rattle.std.proofs.Common.{length, refl, sym, subst, ◌∙◌, arith}
use Rattle.std.proofs.lemmas.Bool.{false≢true}
use Rattle.std.proofs.lemmas.Bool.Decides.{nat_tests}
use Rattle.std.specs.List.{AllByRecursion, list_any}
use Rattle.air_link.specs.Link.{Link}
use Rattle.bearer.specs.declared.flow.Flow.{Flow}
use Rattle.bearer.specs.declared.flow.Flow.TheVariants.{Tm, Um, Am}
use Rattle.l2_types.specs.declared.channel.Kind.{Kind}
use Rattle.l2_types.specs.declared.channel.Kind.TheVariants as kinds
use Rattle.l2_types.specs.declared.side.Side.TheVariants.{Nb, Ue}
use Rattle.law_run.specs.DrainRounds.{round_of}
use Rattle.law_run.specs.DrainShares.{HaveGone, dealt, DealsRound}
use Rattle.law_run.specs.DrainTtis.{goes}
use Rattle.law_bearer.specs.AnyBearer.Calls.{after_all}
use Rattle.law_bearer.specs.AnyBearer.Rounds.{Round, arrivals}
use Rattle.law_drain.specs.Channels.{Measured, channel_measure}
use Rattle.law_drain.specs.Falling.{is_acknowledged, AreAlike, WritesOctets, ReordersAtTop, AwaitsPoll, RoundFalls}
use Rattle.law_drain.specs.Falling.{down_writes, up_writes}
use Rattle.law_drain.specs.Sharing.{is_transparent}
use Rattle.law_drain.proofs.Falling.{channels_fall}
use Rattle.law_node.specs.Holding.{flow}
use Rattle.law_node.proofs.Ready.{WritesWell}
use Rattle.law_node.proofs.Senders.{um_fed_ready}
use Rattle.law_run.specs.DrainLinks.{AllMeasured, link_measure, IsChannelOn}
use Rattle.law_run.proofs.DrainFlows.{come_stands, arrives_well, offers}
use Rattle.law_run.proofs.DrainTracks.{IsOfKind}

-- ---- both ends of a channel are of one mode

abbrev transparent_of : Kind → Bool
transparent_of kinds.Tm = true
transparent_of kinds.Srb = false
transparent_of kinds.Um = false
transparent_of kinds.Am = false

abbrev acknowledged_of : Kind → Bool
acknowledged_of kinds.Tm = false
acknowledged_of kinds.Srb = true
acknowledged_of kinds.Um = false
acknowledged_of kinds.Am = true

abbrev IsOfMode : Kind → Flow → Type 0
IsOfMode kind f = (is_transparent f ≡ transparent_of kind) × (is_acknowledged f ≡ acknowledged_of kind)

mode_is : (kind : Kind) (f : Flow) → IsOfKind kind f → IsOfMode kind f
mode_is kinds.Tm (Tm b) h = (refl, refl)
mode_is kinds.Tm (Um b) h = absurd h
mode_is kinds.Tm (Am b) h = absurd h
mode_is kinds.Srb (Tm b) h = absurd h
mode_is kinds.Srb (Um b) h = absurd h
mode_is kinds.Srb (Am b) h = (refl, refl)
mode_is kinds.Um (Tm b) h = absurd h
mode_is kinds.Um (Um b) h = (refl, refl)
mode_is kinds.Um (Am b) h = absurd h
mode_is kinds.Am (Tm b) h = absurd h
mode_is kinds.Am (Um b) h = absurd h
mode_is kinds.Am (Am b) h = (refl, refl)

pub alike : (kind : Kind) (nb ue : Flow) → IsOfKind kind nb → IsOfKind kind ue → AreAlike nb ue
alike kind nb ue h k =
    let one = mode_is kind nb h in
    let other = mode_is kind ue k in
    record { transparent = one.0 ∙ sym other.0; acknowledged = one.1 ∙ sym other.1 }

-- ---- each SDU has an octet

pub writes_octets_in : (lcid : ℕ) (f : Flow) → WritesWell lcid f → WritesOctets f
writes_octets_in lcid (Tm b) w = λ share held. w.ready
writes_octets_in lcid (Um b) w = λ share held.
    (um_fed_ready w.kind b share held w.known w.offers').octets w.ready.octets
writes_octets_in lcid (Am b) w = offers lcid b w

-- ---- the channels of a list

abbrev pub AreAtTop : List ℕ → Link → Type 0
AreAtTop [] k = Unit {0}
AreAtTop (l ∷ ls) k = (ReordersAtTop (flow l k.nb) × ReordersAtTop (flow l k.ue)) × AreAtTop ls k

abbrev pub is_listed : ℕ → List ℕ → Bool
is_listed l ls = list_any (λ n. l == n) ls

same_number : (l n : ℕ) → (l == n) ≡ true → l ≡ n
same_number l n e = grind (arith, nat_tests)

module _ (grant : ℕ) (polls : Bool) (k : Link) (gone : HaveGone 8 k) (deals : DealsRound grant polls k
    (goes (round_of grant polls) k)) where
  abbrev m : Link
  m = goes (round_of grant polls) k

  -- a channel's part of the round
  abbrev pub part : ℕ → Round
  part l = record { down = dealt deals.nb grant l; up = dealt deals.ue grant l; polls = polls }

  abbrev pub down_on : ℕ → List (List ℕ)
  down_on l = down_writes (part l) (flow l k.nb)

  abbrev pub up_on : ℕ → List (List ℕ)
  up_on l = up_writes (part l) (flow l k.nb) (flow l k.ue)

  abbrev pub PartFalls : (l : ℕ) → Measured (flow l k.nb) (flow l k.ue) → Type 0
  PartFalls l h = RoundFalls (part l) (flow l k.nb) (flow l k.ue) (flow l m.nb) (flow l m.ue) h

  part_falls : (l : ℕ) → IsChannelOn k l → AreAlike (flow l k.nb) (flow l k.ue)
      → (h : Measured (flow l k.nb) (flow l k.ue)) → PartFalls l h
  part_falls l on same h =
      let at_nb = come_stands Nb k.nb l gone.may.come.nb in
      let at_ue = come_stands Ue k.ue l gone.may.come.ue in
      channels_fall (part l) (flow l k.nb) (flow l k.ue) (flow l m.nb) (flow l m.ue) (deals.rounds l on.0 on.1) same
      (writes_octets_in at_nb.lcid (flow l k.nb) at_nb.well.0)
      (writes_octets_in at_ue.lcid (after_all (flow l k.ue) (arrivals (down_on l)))
      (arrives_well at_ue.lcid (down_on l) (flow l k.ue) at_ue.well.0)) h

  -- what all of them make of it
  pub record LinkRoundFalls (ls : List ℕ) (h : AllMeasured ls k) : Type 0 where
    pub left : AllMeasured ls m
    pub top : AreAtTop ls m
    pub rests : link_measure ls m left ≤ link_measure ls k h
    pub writes : AreAtTop ls k → (l : ℕ) → is_listed l ls ≡ true → (0 < length (down_on l)) ⊎ (0 < length (up_on l))
        → link_measure ls m left + 1 ≤ link_measure ls k h
    pub recalls : polls ≡ true → (l : ℕ) → is_listed l ls ≡ true → down_on l ≡ [] → up_on l ≡ []
        → AwaitsPoll (flow l k.nb) ⊎ AwaitsPoll (flow l k.ue) → link_measure ls m left + 1 ≤ link_measure ls k h

  pub link_falls : (ls : List ℕ) → AllByRecursion (IsChannelOn k) ls
      → AllByRecursion (λ l. AreAlike (flow l k.nb) (flow l k.ue)) ls → (h : AllMeasured ls k) → LinkRoundFalls ls h
  link_falls [] on same h = record {
    left = tt;
    top = tt;
    rests = omega arith;
    writes = λ top l here some. absurd (false≢true here);
    recalls = λ is l here none none' waits. absurd (false≢true here);
  }
  link_falls (n ∷ ls) on same h =
      let one = part_falls n on.0 same.0 h.0 in
      let more = link_falls ls on.1 same.1 h.1 in
      let one_rests = one.rests in
      let more_rests = more.rests in
      record {
        left = (one.left, more.left);
        top = ((one.nb_top, one.ue_top), more.top);
        rests = omega (arith, one_rests, more_rests);
        writes = λ top l here some. by_writes one more top l (l == n) refl here some;
        recalls = λ is l here none none' waits. by_recalls one more is l (l == n) refl here none none' waits;
      }
    where
      by_writes : (one : PartFalls n h.0) (more : LinkRoundFalls ls h.1) → AreAtTop (n ∷ ls) k → (l : ℕ) (b : Bool)
          → (l == n) ≡ b → (b || is_listed l ls) ≡ true → (0 < length (down_on l)) ⊎ (0 < length (up_on l))
          → (channel_measure (flow n m.nb) (flow n m.ue) one.left + link_measure ls m more.left) + 1
          ≤ channel_measure (flow n k.nb) (flow n k.ue) h.0 + link_measure ls k h.1
      by_writes one more top l true is here some =
          let falls = one.writes top.0.0 top.0.1
          (subst (λ (x : ℕ). (0 < length (down_on x)) ⊎ (0 < length (up_on x))) (same_number l n is) some) in
          omega (arith, falls, more.rests)
      by_writes one more top l false is here some =
          let falls = more.writes top.1 l here some in
          omega (arith, falls, one.rests)

      by_recalls : (one : PartFalls n h.0) (more : LinkRoundFalls ls h.1) → polls ≡ true → (l : ℕ) (b : Bool)
          → (l == n) ≡ b → (b || is_listed l ls) ≡ true → down_on l ≡ [] → up_on l ≡ []
          → AwaitsPoll (flow l k.nb) ⊎ AwaitsPoll (flow l k.ue)
          → (channel_measure (flow n m.nb) (flow n m.ue) one.left + link_measure ls m more.left) + 1
          ≤ channel_measure (flow n k.nb) (flow n k.ue) h.0 + link_measure ls k h.1
      by_recalls one more given l true is here none none' waits =
          let same = same_number l n is in
          let falls = one.recalls given (subst (λ (x : ℕ). down_on x ≡ []) same none)
          (subst (λ (x : ℕ). up_on x ≡ []) same none')
          (subst (λ (x : ℕ). AwaitsPoll (flow x k.nb) ⊎ AwaitsPoll (flow x k.ue)) same waits) in
          omega (arith, falls, more.rests)
      by_recalls one more given l false is here none none' waits =
          let falls = more.recalls given l here none none' waits in
          omega (arith, falls, one.rests)

-- At a moment of lives since a channel's bearers of acknowledged data came: what both directions are by what is told
-- of them, and what is gathered of what PDCP gives RLC.
use Rattle.std.proofs.Common.{◌≡◌, ◌≤◌, ℕ, List, [], ◌∷◌, ◌++◌, map, length, Some, None, nat_lt, append_assoc}
use Rattle.std.proofs.Common.{refl, ap, sym, subst, ◌∙◌}
use Rattle.air_record.specs.declared.record.Record.{Record}
use Rattle.air_text.specs.Groups.{Group}
use Rattle.bearer.specs.Acknowledged.State.{State}
use Rattle.bearer_types.specs.declared.config.BearerConfig.{BearerConfig}
use Rattle.l2_node.specs.End.{End}
use Rattle.l2_types.specs.declared.side.Side.{Side}
use Rattle.l2_types.specs.declared.side.Side.TheVariants.{Nb, Ue}
use Rattle.pdcp_tx.specs.declared.sender.Next.{Next}
use Rattle.promises.specs.Arrival.{account_of, entries_in}
use Rattle.journal_account.specs.FlowEvents.{FlowEvent}
use Rattle.journal_account.specs.Stream.{is_in_sequence}
use Rattle.journal_flows.specs.FlowsTold.{Histories}
use Rattle.journal_flows.specs.Gathering.{Journal}
use Rattle.journal_given.specs.Supplies.{Bearer, History}
use Rattle.journal_lives.specs.LifeEvents.{LifeEvent, running}
use Rattle.law_account.specs.History.{Follows}
use Rattle.law_deliver.specs.AmChannel.Arrival.{told_from}
use Rattle.law_deliver.specs.AmChannel.Lives.{AirStep, lives, end_at}
use Rattle.law_deliver.specs.AmFlow.Air.{outset}
use Rattle.law_deliver.proofs.AmFlow.Links.{same_bearer}
use Rattle.law_given.specs.BearerRecords.{bearer_first}
use Rattle.law_node.specs.Holding.{flow}
use Rattle.air_record.specs.Submissions.{submitted_by}
use Rattle.law_given.specs.Beside.{HandsUpFirst, AreGivenBy}
use Rattle.law_given.specs.Confirming.{AreSizesTold}
use Rattle.law_given.specs.Joined.{Direction, IsDirection, Joins, IsTold, pdcp, rlc, given_of}
use Rattle.law_given.proofs.GivenRecords.{journal_at}
use Rattle.law_given.proofs.Tied.{AreTied}
use Rattle.law_rlc.specs.AmPair.Flow.{sender}
use Rattle.law_rlc.specs.AmPair.Sdus.{offered, handed_up, ready}
use Rattle.law_rlc.proofs.AmPair.Laws.{hands-up-the-front}
use Rattle.law_words.specs.Arrivals.{Given, Account, account}
use Rattle.law_sound.specs.AgreeLaws.{AgreeOn}
use Rattle.law_sound.specs.LivedHistories.{AreLived, Moment}
use Rattle.law_sound.proofs.Agreeing.{Agrees, sequence_by_passed}

-- ---- both directions

-- the history of what goes from a side
abbrev pub history : Side → Moment → List FlowEvent
history Nb m = m.down
history Ue m = m.up

module _ (l : ℕ) (c : BearerConfig) (nb ue : End) (steps : List AirStep) (t : AreTied l c nb ue steps) where
  abbrev pub way : Side → Direction
  way Nb = t.joined.there
  way Ue = t.joined.back

  abbrev pub bearer : Side → State
  bearer Nb = t.joined.one
  bearer Ue = t.joined.two

  abbrev pub told : Side → Account
  told from = told_from c l from steps (outset nb ue)

  sizes_of : (d : Direction) (from to : State) (a : Account) (news ups : List (List ℕ)) → Joins d from to
      → IsTold d a news ups → map (λ (g : Given). g.size) a.given ≡ map length (offered (rlc d))
  sizes_of d from to a news ups j told_so =
      ap (map (λ (g : Given). g.size)) (sym told_so.stream_is)
      ∙ (lengths (pdcp d).stream ∙ ap (map length) j.stream_is)
    where
      lengths : (ns : List Next)
          → map (λ (g : Given). g.size) (map given_of ns) ≡ map length (map (λ (n : Next). n.octets) ns)
      lengths [] = refl
      lengths (n ∷ ns) = ap (λ (zs : List ℕ). length n.octets ∷ zs) (lengths ns)

  -- the sizes of RLC's flow are those that a history tells which agrees with what is told
  pub sizes_told : (from : Side) (es : List LifeEvent) → Agrees (told from) es
      → AreSizesTold (rlc (way from)) (running es)
  sizes_told Nb es h = record {
    octets = t.there_octets;
    sdus = sym h.sizes ∙ sizes_of t.joined.there t.joined.one t.joined.two (told Nb) _ _ t.joined.there_joins
        t.joined.there_told;
    fields = sym h.fields ∙ t.there_fields;
  }
  sizes_told Ue es h = record {
    octets = t.back_octets;
    sdus = sym h.sizes ∙ sizes_of t.joined.back t.joined.two t.joined.one (told Ue) _ _ t.joined.back_joins
        t.joined.back_told;
    fields = sym h.fields ∙ t.back_fields;
  }

  -- just those SDUs are in sequence by it that RLC has handed up
  pub passed_told : (from : Side) (es : List LifeEvent) → Agrees (told from) es → (k : ℕ)
      → is_in_sequence (running es) k ≡ nat_lt k (length (handed_up (rlc (way from))))
  passed_told Nb es h k =
      sequence_by_passed (told Nb) es (pdcp t.joined.there).passed h t.joined.there_told.passed_is k
      ∙ ap (nat_lt k) t.joined.there_joins.passed_is
  passed_told Ue es h k =
      sequence_by_passed (told Ue) es (pdcp t.joined.back).passed h t.joined.back_told.passed_is k
      ∙ ap (nat_lt k) t.joined.back_joins.passed_is

  first_up : (d : Direction) → IsDirection c d → HandsUpFirst d
  first_up d is =
      let front = hands-up-the-front d.sending d.receiving d.steps is.steps in
      (ready (rlc d) ++ front.rest, front.is ∙ append_assoc (handed_up (rlc d)) (ready (rlc d)) front.rest)

  pub hands_first : (from : Side) → HandsUpFirst (way from)
  hands_first Nb = first_up t.joined.there t.joined.there_is
  hands_first Ue = first_up t.joined.back t.joined.back_is

  -- beside the histories of the moment
  pub record FollowsSome (es : List FlowEvent) (d : Direction) : Type 0 where
    pub most : ℕ
    pub follows : Follows most es (sender (rlc d)).state

  pub follows_so : (from : Side) (m : Moment) → AreLived l (lives steps (outset nb ue)) m.pdus m.down m.up
      → FollowsSome (history from m) (way from)
  follows_so Nb m h =
      let f = h.air.by_air.flows.down in
      let same = same_bearer (flow l (end_at Nb (lives steps (outset nb ue)))) f.from_bearer t.joined.one f.from_is
      t.joined.one_is in
      record {
        most = h.nb_bearer.tx_config.max_retx;
        follows = subst (Follows h.nb_bearer.tx_config.max_retx m.down)
            (ap (λ (b : State). b.tx) same ∙ sym t.joined.there_joins.rlc_sender_is) h.beside.by_nb.follows;
      }
  follows_so Ue m h =
      let f = h.air.by_air.flows.up in
      let same = same_bearer (flow l (end_at Ue (lives steps (outset nb ue)))) f.from_bearer t.joined.two f.from_is
      t.joined.two_is in
      record {
        most = h.ue_bearer.tx_config.max_retx;
        follows = subst (Follows h.ue_bearer.tx_config.max_retx m.up)
            (ap (λ (b : State). b.tx) same ∙ sym t.joined.back_joins.rlc_sender_is) h.beside.by_ue.follows;
      }

-- ---- what is gathered, behind the first records of a group

module _ (l : ℕ) (c : BearerConfig) (nb ue : End) (low : l ≤ 10) (newer : List Group) (now : Group) (past : List Group)
    (none : submitted_by now.line ≡ None) where
  -- where no SDU of a line is left
  pub record IsGivenAt (told : List Record) (steps : List AirStep) (m : Moment) (j : Journal Histories) : Type 0 where
    pub tied : AreTied l c nb ue steps
    pub account_is : (from : Side) → told_from c l from steps (outset nb ue)
        ≡ account (entries_in c.pdcp_bits l from [] told) (account_of c l from past)
    pub gathered : Bearer History
    pub is : bearer_first l now past told ≡ Some gathered
    pub given : AreGivenBy c tied.joined.there tied.joined.back tied.joined.one tied.joined.two m.down m.up gathered.nb
        gathered.ue
    pub agree : AgreeOn l (journal_at l low newer now past none told) j

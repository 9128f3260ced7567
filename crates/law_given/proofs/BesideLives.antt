-- What is gathered of both sides stands beside both ends as the first life and each next one begin.
use Rattle.std.proofs.Common.{◌≡◌, ℕ, nat_lt, List, [], length, refl, ap, sym, subst, arith}
use Rattle.bearer.specs.Acknowledged.State.{State}
use Rattle.bearer.specs.declared.flow.Flow.TheVariants.{Am}
use Rattle.bearer_types.specs.declared.config.BearerConfig.{BearerConfig}
use Rattle.eps_sec.specs.declared.Keys.{Keys}
use Rattle.l2_types.specs.declared.side.Side.TheVariants.{Nb, Ue}
use Rattle.pdcp_pdu.specs.declared.PdcpKind.TheVariants.{Am as AmKind}
use Rattle.pdcp_rx.specs.State.{report}
use Rattle.pdcp_sec.specs.Protection.{Protection}
use Rattle.pdcp_tx.specs.State.{State as Sending, start}
use Rattle.journal_account.specs.FlowEvents.{FlowEvent}
use Rattle.journal_lives.specs.CountsCome.{CountsCome, none_come}
use Rattle.journal_given.specs.Supplies.{Supply, History, histories, begun, life_ended}
use Rattle.law_bearer.specs.AmBearer.Calls.{IsOfData, IsIdle}
use Rattle.law_bearer.specs.AmBearer.Lives.{closed, protection_at}
use Rattle.law_bearer.specs.AnyBearer.Calls.{Restart, goes}
use Rattle.law_bearer.proofs.AmBearer.Lives.{ends_begin_alike}
use Rattle.law_given.specs.Joined.{Direction}
use Rattle.law_given.specs.Supplied.{Progress, outset, IsReadAs, IsSupplied}
use Rattle.law_given.specs.SupplyLaws.{IsInWindow}
use Rattle.law_given.specs.Beside.{progress, IsGivenBy, HasJustBegun, FirstLivesBeginBeside, NextLivesBeginBeside}
use Rattle.law_given.proofs.LandingTold.{none-past}
use Rattle.law_given.proofs.SupplyLives.{supplies_begin, lives_are_gathered}
use Rattle.law_given.proofs.BesideProgress.{progress-is}

begins-at-outset : (d : Direction) → HasJustBegun d → outset ≡ progress d []
begins-at-outset d h =
    progress-is d [] outset (sym h.offered_none) (λ k. sym (none-past [] k (omega arith)))
    (ap (λ (l : List (List ℕ)). nat_lt 0 (length l)) (sym h.handed_none))

begins-in-window : (bits first : ℕ) (p : Protection)
    → IsInWindow bits (start (AmKind bits) p first) (none_come first)
unfolding start
begins-in-window bits first p = record { from = omega arith; to = omega arith }

pub first_lives_begin_beside : FirstLivesBeginBeside
first_lives_begin_beside c keys there back one two k p q h g =
    let there_alike = ends_begin_alike c keys Nb one two k p q in
    let back_alike = ends_begin_alike c keys Ue two one k q p in
    let s = begun histories c.first c.pdcp_bits in
    record {
      own_is = record {
        bits = refl;
        sizes = h.sizes;
        supplied = subst (λ (x : Progress). IsSupplied x one.pdcp.tx s) (begins-at-outset there h)
            (supplies_begin c keys Nb one k p);
        window =
            subst (λ (x : Sending). IsInWindow c.pdcp_bits x (none_come c.first)) (sym back_alike.sender)
            (begins-in-window c.pdcp_bits c.first (protection_at c keys Ue));
      };
      far_is = record {
        bits = refl;
        sizes = g.sizes;
        supplied = subst (λ (x : Progress). IsSupplied x two.pdcp.tx s) (begins-at-outset back g)
            (supplies_begin c keys Ue two k q);
        window =
            subst (λ (x : Sending). IsInWindow c.pdcp_bits x (none_come c.first)) (sym there_alike.sender)
            (begins-in-window c.pdcp_bits c.first (protection_at c keys Nb));
      };
    }

-- the next life of a side
next_begins : (c : BearerConfig) (d e : Direction) (from from' to to' : State) (es : List FlowEvent) (keys : Keys)
    (said : CountsCome) (own : Supply History)
    → IsOfData c.pdcp_bits from → IsIdle from → goes (Am from) (Restart keys) ≡ Am from'
    → IsReadAs c.pdcp_bits (report (closed from)) said → IsInWindow c.pdcp_bits to'.pdcp.tx said → HasJustBegun e
    → IsGivenBy c d from to es own
    → IsGivenBy c e from' to' [] (life_ended histories said own)
next_begins c d e from from' to to' es keys said own data' idle is read window h b = record {
  bits = b.bits;
  sizes = h.sizes;
  supplied =
      subst (λ (x : Progress). IsSupplied x from'.pdcp.tx (life_ended histories said own)) (begins-at-outset e h)
      (lives_are_gathered (progress d es) from from' keys said own
      (subst (λ (n : ℕ). IsOfData n from) (sym b.bits) data') idle is
      (subst (λ (n : ℕ). IsReadAs n (report (closed from)) said) (sym b.bits) read) b.supplied);
  window = window;
}

pub next_lives_begin_beside : NextLivesBeginBeside
next_lives_begin_beside c there back there' back' one two one' two' es xs keys own_said far_said own far one_data
    one_idle two_data two_idle e f own_read far_read own_window far_window h g b = record {
      own_is = next_begins c there there' one one' two two' es keys own_said own one_data one_idle e own_read
          own_window h b.own_is;
      far_is = next_begins c back back' two two' one one' xs keys far_said far two_data two_idle f far_read far_window g
          b.far_is;
    }

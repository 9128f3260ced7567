-- What is gathered of both sides stays beside both ends, in an end's own call and where none of the
-- bearer is called.
use Rattle.std.proofs.Common.{ℕ, sym, ◌∙◌, subst}
use Rattle.pdcp_pdu.specs.Kinds.{IsKind}
use Rattle.pdcp_pdu.specs.declared.PdcpKind.TheVariants.{Am as AmKind}
use Rattle.journal_lives.specs.CountsCome.{CountsCome}
use Rattle.law_bearer.specs.AmBearer.Calls.{IsOfData}
use Rattle.law_given.specs.Supplied.{Progress, IsSupplied}
use Rattle.law_given.specs.SupplyLaws.{gathered, offered_in, IsInWindow}
use Rattle.law_given.specs.Beside.{progress, OwnCallsStayBeside, OtherStepsStayBeside}
use Rattle.law_given.proofs.Supplying.{calls_are_gathered}
use Rattle.law_given.proofs.LandingWindow.{windows_stay}
use Rattle.law_given.proofs.BesideProgress.{more-offered, nothing-new, gathered-said}

pub own_calls_stay_beside : OwnCallsStayBeside
own_calls_stay_beside c there back there' back' one two d es es' xs xs' call own far w kind of_data idle e out in' z y
    same far_same g =
    let bits = g.own_is.bits in
    let h =
    calls_are_gathered (progress there es) one d call own w (subst (λ (n : ℕ). IsKind (AmKind n)) (sym bits) kind)
    (subst (λ (n : ℕ). IsOfData n one) (sym bits) of_data) e g.own_is.supplied in
    record {
      given = record {
        own_is = record {
          bits = h.bits ∙ bits;
          sizes = z;
          supplied =
              subst (λ (p : Progress). IsSupplied p d.pdcp.tx (gathered one call own))
              (more-offered there there' es es' (offered_in one call) out same) h.supplied;
          window =
              subst (λ (said : CountsCome). IsInWindow c.pdcp_bits two.pdcp.tx said) (sym (gathered-said one call own))
              g.own_is.window;
        };
        far_is = record {
          bits = g.far_is.bits;
          sizes = y;
          supplied = subst (λ (p : Progress). IsSupplied p two.pdcp.tx far) (nothing-new back back' xs xs' in' far_same)
              g.far_is.supplied;
          window = windows_stay c.pdcp_bits one d call far.said of_data idle e g.far_is.window;
        };
      };
      right = h.right;
    }

pub other_steps_stay_beside : OtherStepsStayBeside
other_steps_stay_beside c there back there' back' one two es es' xs xs' own far out in' z y same far_same g = record {
  own_is = record {
    bits = g.own_is.bits;
    sizes = z;
    supplied = subst (λ (p : Progress). IsSupplied p one.pdcp.tx own) (nothing-new there there' es es' out same)
        g.own_is.supplied;
    window = g.own_is.window;
  };
  far_is = record {
    bits = g.far_is.bits;
    sizes = y;
    supplied = subst (λ (p : Progress). IsSupplied p two.pdcp.tx far) (nothing-new back back' xs xs' in' far_same)
        g.far_is.supplied;
    window = g.far_is.window;
  };
}

-- The limit of retransmissions of a channel's acknowledged bearers is that of their configuration,
-- through all lives (TS 36.322 5.2.1, 7.4).
use Rattle.std.specs.Prelude.{◌≡◌, ℕ, List}
use Rattle.bearer.specs.Acknowledged.State.{State}
use Rattle.bearer_types.specs.declared.config.BearerConfig.{BearerConfig}
use Rattle.l2_types.specs.declared.side.Side.TheVariants.{Nb, Ue}
use Rattle.law_deliver.specs.AmChannel.Delivery.{HasBegun}
use Rattle.law_deliver.specs.AmChannel.Lives.{AirStep, AreLiving, lives}
use Rattle.law_deliver.specs.AmFlow.Air.{Air}
use Rattle.law_sound.specs.LivedFails.{HaveComeNew}
use Rattle.law_sound.specs.LivedHistories.{AreLived, Moment}

-- maxRetxThreshold
pub record AreLimits (most : ℕ) (nb ue : State) : Type 0 where
  pub nb_is : nb.tx_config.max_retx ≡ most
  pub ue_is : ue.tx_config.max_retx ≡ most

-- where the bearers have just come
abbrev pub LimitsBegin : Type 0
LimitsBegin = (l : ℕ) (c : BearerConfig) (keys : _) (a : Air) (m : Moment)
    → HasBegun Nb l c keys a.nb.end → HasBegun Ue l c keys a.ue.end
    → (h : AreLived l a m.pdus m.down m.up) → AreLimits c.tx.max_retx h.nb_bearer h.ue_bearer

-- and since
abbrev pub LimitsStay : Type 0
LimitsStay = (most l : ℕ) (xs : List AirStep) (a : Air) (m last : Moment) → HaveComeNew l a
    → AreLiving l a xs → (h : AreLived l a m.pdus m.down m.up)
    → (k : AreLived l (lives xs a) last.pdus last.down last.up)
    → AreLimits most h.nb_bearer h.ue_bearer → AreLimits most k.nb_bearer k.ue_bearer

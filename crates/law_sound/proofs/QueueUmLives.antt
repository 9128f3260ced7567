-- An unacknowledged bearer beside the flow that it sends: as a life begins, as the next one does, and as a group ends.
use Rattle.std.proofs.Common.{◌≡◌, ℕ, [], refl, ap, sym, subst, ◌∙◌}
use Rattle.bearer.specs.Unacknowledged.Lives.{last_ups, stopped, restarted}
use Rattle.bearer.specs.Unacknowledged.State.{State, fresh}
use Rattle.bearer_pdcp.specs.Ends.{begun as begun_pdcp}
use Rattle.bearer_types.specs.declared.config.BearerConfig.{BearerConfig}
use Rattle.eps_sec.specs.declared.Keys.{Keys}
use Rattle.l2_types.specs.declared.side.Side.{Side}
use Rattle.pdcp_pdu.specs.declared.PdcpKind.TheVariants as pdcp
use Rattle.pdcp_rx.specs.declared.got.Cause.TheVariants.{Reestablished}
use Rattle.pdu_show.specs.declared.kinds.Layout.{Layout}
use Rattle.pdu_show.specs.declared.kinds.Layout.TheVariants as layouts
use Rattle.rlc_pdu.specs.Pdus.{IsUmBits}
use Rattle.rlc_um.specs.Receiver.{all_joined}
use Rattle.journal_sent.specs.RightSent.{Flow}
use Rattle.journal_sent.specs.SentFlows.{cover_as, flow_begun, flow_renewed, waiting_behind, floored}
use Rattle.journal_sent.specs.SentPdus.{histories}
use Rattle.law_sound.proofs.QueueBeside.{IsQueueOf, IsUnackedBy}
use Rattle.law_sound.proofs.QueuePdcp.{queue_alike, queue_begun, queue_restarts}
use Rattle.law_sound.proofs.QueueUmHearing.{hears_queue}
use Rattle.law_sent.proofs.UmSenders.{begins_so}

pub um_begins : (c : BearerConfig) (keys : Keys) (side : Side) → IsUmBits c.rlc_bits → c.first ≡ 0
    → IsUnackedBy (fresh c keys side) (flow_begun histories (layouts.Um c.rlc_bits (pdcp.Um c.pdcp_bits))
    (cover_as (pdcp.Um c.pdcp_bits) side c.channel.lcid keys))
unfolding fresh
um_begins c keys side known none =
    let layout : Layout = layouts.Um c.rlc_bits (pdcp.Um c.pdcp_bits) in
    let first : Flow =
    flow_begun histories layout (cover_as (pdcp.Um c.pdcp_bits) side c.channel.lcid keys) in
    record {
      bits = c.pdcp_bits;
      layout_is = refl;
      known = known;
      sender_bits = refl;
      queue = subst (λ (n : ℕ). IsQueueOf (pdcp.Um c.pdcp_bits)
          (begun_pdcp c.channel.lcid (pdcp.Um c.pdcp_bits) n keys side) first) (sym none)
          (queue_begun (pdcp.Um c.pdcp_bits) refl layout c.channel.lcid keys side);
      streams = begins_so c.rlc_bits;
    }

-- what waits is kept
pub um_restarts : (b : State) (keys : Keys) (f : Flow) → IsUnackedBy b f
    → IsUnackedBy (restarted (stopped b) keys) (flow_renewed histories keys f)
unfolding stopped restarted
um_restarts b keys f h =
    let e = (last_ups b).pdcp in
    let queue = hears_queue h.bits (all_joined b.rx) Reestablished (record { pdcp = b.pdcp; events = [] }) f h.queue in
    record {
      bits = h.bits;
      layout_is = h.layout_is;
      known = h.known;
      sender_bits = refl;
      queue = queue_restarts (pdcp.Um h.bits) refl e keys f
          (ap (λ (a : Layout). waiting_behind a f.waiting) h.layout_is ∙ queue.waiting_is) queue;
      streams = begins_so b.bits;
    }

pub um_settles : (b : State) (n : ℕ) (f : Flow) → IsUnackedBy b f → IsUnackedBy b (floored histories n f)
um_settles b n f h = record {
  bits = h.bits;
  layout_is = h.layout_is;
  known = h.known;
  sender_bits = h.sender_bits;
  queue = queue_alike (pdcp.Um h.bits) refl b.pdcp f (floored histories n f) refl refl refl h.queue;
  streams = h.streams;
}

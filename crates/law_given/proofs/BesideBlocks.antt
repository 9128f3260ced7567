-- What is gathered of both sides stays beside both ends as a block of one comes to the other.
use Rattle.std.proofs.Common.{◌≡◌, ℕ, ◌+◌, Bool, nat_lt, List, [], ◌∷◌, ◌++◌, length, take, drop, refl, ap, sym, ◌∙◌}
use Rattle.std.proofs.Common.{subst, arith, length-append}
use Rattle.bearer_types.specs.Sides.{other}
use Rattle.l2_types.specs.declared.side.Side.{Side}
use Rattle.l2_types.specs.declared.side.Side.TheVariants.{Nb, Ue}
use Rattle.pdcp_pdu.specs.Kinds.{IsKind}
use Rattle.pdcp_pdu.specs.declared.PdcpKind.TheVariants.{Am as AmKind}
use Rattle.bearer.specs.Acknowledged.State.{State}
use Rattle.bearer.specs.Acknowledged.Hearing.{after_arrival}
use Rattle.bearer.specs.declared.flow.Flow.TheVariants.{Am}
use Rattle.journal_account.specs.FlowEvents.{FlowEvent}
use Rattle.journal_lives.specs.CountsCome.{CountsCome}
use Rattle.journal_given.specs.Giving.{side_of}
use Rattle.journal_given.specs.Supplies.{Supply, Bearer, History, histories}
use Rattle.law_bearer.specs.AnyBearer.Calls.{Arrive}
use Rattle.law_bearer.specs.AmBearer.Calls.{IsOfData}
use Rattle.law_rlc.specs.AmPair.Sdus.{offered, handed_up}
use Rattle.law_given.specs.BearerRecords.{landed_by, heard_by, confirms_by}
use Rattle.law_given.specs.Supplied.{Progress, IsSupplied}
use Rattle.law_given.specs.SupplyLaws.{IsInWindow}
use Rattle.law_given.specs.Landing.{pdus_of, BringsInSequence, Lands}
use Rattle.law_given.specs.Joined.{Direction, rlc}
use Rattle.law_given.specs.Beside.{GoesOnAs, progress, HandsUpFirst, BlocksStayBeside}
use Rattle.law_given.proofs.Landing.{Stands, arrives-so, stands-on, behind, all-arrive, SaysAlike, says-on}
use Rattle.law_given.proofs.Landing.{confirmed-says, gone-says, heard-says, blocks_are_landed}
use Rattle.law_given.proofs.LandingReports.{windows_are_read}
use Rattle.law_given.proofs.LandingTold.{middle-is}
use Rattle.law_given.proofs.LandingWindow.{windows_stay}
use Rattle.law_given.proofs.BesideProgress.{progress-is, offers-none, hands-none}

-- ---- what it brings

-- of what RLC was given first it hands up those that are ready
brings-first : (d e : Direction) (es : List FlowEvent) (ready : List (List ℕ)) (sequenced : ℕ → Bool)
    → GoesOnAs d e [] ready [] → HandsUpFirst e
    → ((number : ℕ) → sequenced number ≡ nat_lt number (length (handed_up (rlc e))))
    → BringsInSequence (progress d es) sequenced ready
brings-first d e es ready sequenced g (rest, is) h =
    let was = handed_up (rlc d) in
    let long : length (handed_up (rlc e)) ≡ length was + length ready =
    ap {B = ℕ} (λ (l : List (List ℕ)). length l) g.handed_is ∙ length-append was ready in
    let whole : offered (rlc d) ≡ (was ++ ready) ++ rest =
    sym (offers-none d e ready [] g) ∙ is ∙ ap (λ (l : List (List ℕ)). l ++ rest) g.handed_is in
    let all : length (offered (rlc d)) ≡ length ((was ++ ready) ++ rest) =
    ap {B = ℕ} (λ (l : List (List ℕ)). length l) whole in
    let two = length-append (was ++ ready) rest in
    let one = length-append was ready in
    record {
      before = length was;
      behind = length (handed_up (rlc e));
      order = omega (arith, long);
      given = omega (arith, long, all, two, one);
      came = refl;
      sequenced_is = h;
      ready_is = sym (ap (λ (n : ℕ). drop (length was) (take n (offered (rlc d)))) long
          ∙ ap (λ (l : List (List ℕ)). drop (length was) (take (length was + length ready) l)) whole
          ∙ middle-is was ready rest);
    }

-- ---- what each side says stays

own-says : (from : Side) (status : Bool) (sequenced confirmed : ℕ → Bool) (b : Bearer History)
    → SaysAlike (side_of from b) (side_of from (landed_by histories from status sequenced confirmed b))
own-says Nb status sequenced confirmed b = gone-says sequenced b.nb
own-says Ue status sequenced confirmed b = gone-says sequenced b.ue

hears-says : (status : Bool) (sequenced confirmed : ℕ → Bool) (sent s : Supply History)
    → SaysAlike s (heard_by histories sequenced sent (confirms_by histories status confirmed s))
hears-says status sequenced confirmed sent s =
    let u = confirms_by histories status confirmed s in
    says-on s u (heard_by histories sequenced sent u) (confirmed-says status confirmed s) (heard-says sequenced sent u)

far-says : (from : Side) (status : Bool) (sequenced confirmed : ℕ → Bool) (b : Bearer History)
    → SaysAlike (side_of (other from) b)
    (side_of (other from) (landed_by histories from status sequenced confirmed b))
far-says Nb status sequenced confirmed b = hears-says status sequenced confirmed b.nb b.ue
far-says Ue status sequenced confirmed b = hears-says status sequenced confirmed b.ue b.nb

-- ---- the window of the end that hears it

all-in-window : (bits : ℕ) (pdus : List (List ℕ)) (b : State) (said : CountsCome) → Stands bits b
    → IsInWindow bits b.pdcp.tx said → IsInWindow bits (behind pdus b).pdcp.tx said
all-in-window bits [] b said h w = w
all-in-window bits (pdu ∷ pdus) b said h w =
    all-in-window bits pdus (after_arrival b pdu) said (stands-on bits b pdu h)
    (windows_stay bits b (after_arrival b pdu) (Arrive pdu) said h.of_data h.idle (arrives-so b pdu) w)

-- ---- the whole

pub blocks_stay_beside : BlocksStayBeside
blocks_stay_beside c there back there' back' one two d es es' xs xs' from k status sequenced confirmed b kind of_data
    idle statuses last left out in' front seq conf news silent same z y g =
    let own = side_of from b in
    let far = side_of (other from) b in
    let now = landed_by histories from status sequenced confirmed b in
    let bits : own.bits ≡ c.pdcp_bits = g.own_is.bits in
    let far_bits : far.bits ≡ c.pdcp_bits = g.far_is.bits in
    let window = g.own_is.window in
    let l : Lands k status sequenced confirmed (progress there es) (progress back xs) own far two d = record {
      bits = bits ∙ sym far_bits;
      of_data = subst (λ (n : ℕ). IsOfData n two) (sym far_bits) of_data;
      idle = idle;
      statuses = statuses;
      last = last;
      left = left;
      news = news;
      silent = silent;
      brings = brings-first there there' es _ sequenced out front seq;
      reads = λ number e. windows_are_read two own (subst (λ (n : ℕ). IsKind (AmKind n)) (sym bits) kind)
          (subst (λ (n : ℕ). IsOfData n two) (sym bits) of_data)
          (subst (λ (n : ℕ). IsInWindow n two.pdcp.tx own.said) (sym bits) window);
    } in
    let m =
    blocks_are_landed from k status sequenced confirmed (progress there es) (progress back xs) one two d b
    g.own_is.supplied g.far_is.supplied l in
    let both : Am (behind (pdus_of k) two) ≡ Am d = sym (all-arrive (pdus_of k) two) ∙ left in
    let whole : behind (pdus_of k) two ≡ d = cc in
    let ahead : Progress = record (progress there es) { came = sequenced 0 } in
    let going : ahead ≡ progress there' es' =
    progress-is there' es' ahead (sym (offers-none there there' _ [] out)) (λ n. sym (same n)) (seq 0) in
    let after' : Progress = record (progress back xs) { is_confirmed = confirmed } in
    let coming : after' ≡ progress back' xs' =
    progress-is back' xs' after' (sym (offers-none back back' [] _ in')) conf
    (ap (λ (l : List (List ℕ)). nat_lt 0 (length l)) (sym (hands-none back back' [] _ in'))) in
    record {
      own_is = record {
        bits = m.sender_bits ∙ bits;
        sizes = z;
        supplied = subst (λ (p : Progress). IsSupplied p one.pdcp.tx (side_of from now)) going m.sender;
        window =
            subst (λ (said : CountsCome). IsInWindow c.pdcp_bits d.pdcp.tx said)
            (sym (own-says from status sequenced confirmed b).said)
            (subst (λ (x : State). IsInWindow c.pdcp_bits x.pdcp.tx own.said) whole
            (all-in-window c.pdcp_bits (pdus_of k) two own.said (record { of_data = of_data; idle = idle }) window));
      };
      far_is = record {
        bits = m.receiver_bits ∙ bits;
        sizes = y;
        supplied = subst (λ (p : Progress). IsSupplied p d.pdcp.tx (side_of (other from) now)) coming m.receiver;
        window =
            subst (λ (said : CountsCome). IsInWindow c.pdcp_bits one.pdcp.tx said)
            (sym (far-says from status sequenced confirmed b).said) g.far_is.window;
      };
    }

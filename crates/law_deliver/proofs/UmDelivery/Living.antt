-- A life of a direction, as events of PDCP's flow.
use Rattle.std.proofs.Common.{◌≡◌, ℕ, suc, ◌+◌, List, [], ◌∷◌, ◌++◌, map, length, append_assoc, append-nil, refl, ap}
use Rattle.std.proofs.Common.{sym, subst, ◌∙◌}
use Rattle.l2_num.specs.Ascending.{AreBetween}
use Rattle.pdcp_pdu.specs.declared.PdcpKind.TheVariants.{Um as UmKind}
use Rattle.pdcp_rx.specs.declared.got.Cause.TheVariants.{Arrived, Reestablished}
use Rattle.pdcp_tx.specs.declared.sender.Next.{Next}
use Rattle.law_pdcp.specs.OneEnd.Lives.{submitted_in}
use Rattle.rlc_um.specs.Receiver.{all_joined}
use Rattle.bearer.specs.declared.flow.Flow.TheVariants.{Um}
use Rattle.bearer.specs.Lives.{stopping}
use Rattle.bearer.specs.Unacknowledged.State.{State}
use Rattle.law_bearer.specs.AmBearer.Calls.{ups_among}
use Rattle.law_words.specs.Lists.{those}
use Rattle.law_deliver.specs.UmFlow.Flows.{Way, given, heard, places, last_places, behind, IsWhatCameInLife, GoesOn}
use Rattle.law_deliver.specs.UmFlow.Handing.{IsOfData, all_called, hears, raises, HearsTheRest}
use Rattle.law_deliver.proofs.UmFlow.Handing.{hears_what_is_handed, hears_the_rest_at_the_end}
use Rattle.law_pdcp.specs.UmPair.Flow.{Flow, Event, run_um_pdcp, AreGiven, AreShort, steps}
use Rattle.law_deliver.specs.UmDelivery.Delivery.{FewBetween}
use Rattle.law_deliver.specs.UmDelivery.Lives.{AreAccepted, ups, ups_to_end, taken, submitted}
use Rattle.law_deliver.proofs.UmDelivery.Hearing.{HandsUp, risen, all_up, hears_kind, few_then}
use Rattle.law_deliver.proofs.UmDelivery.Sending.{octets, octets_then, run_then, given_then, short_then, submitted_then}
use Rattle.law_deliver.proofs.UmDelivery.Sending.{sent, Sends, sends_all}

-- ---- events lead from a flow to another: what was taken, what went up, and what RLC handed up grow by these

pub record Goes (f g : Flow) (new higher : List (List ℕ)) (handed : List ℕ) (subs : List (List ℕ)) : Type 0 where
  pub events : List Event
  pub may : AreGiven f events
  pub short : AreShort f events
  pub left : run_um_pdcp events f ≡ g
  pub sdus_are : g.sdus ≡ f.sdus ++ new
  pub ups_are : g.up ≡ f.up ++ higher
  pub handed_are : g.handed ≡ f.handed ++ handed
  pub submitted_is : submitted_in (steps events) ≡ subs

more : {A : Type 0} (xs ys zs a b : List A) → ys ≡ xs ++ a → zs ≡ ys ++ b → zs ≡ xs ++ (a ++ b)
more xs ys zs a b p q = q ∙ ap (λ l. l ++ b) p ∙ append_assoc xs a b

pub goes_then : (f g h : Flow) (a b u v : List (List ℕ)) (ps qs : List ℕ) (s t : List (List ℕ)) → Goes f g a u ps s
    → Goes g h b v qs t → Goes f h (a ++ b) (u ++ v) (ps ++ qs) (s ++ t)
goes_then f g h a b u v ps qs s t m k = record {
  events = m.events ++ k.events;
  may = given_then m.events k.events f m.may (subst (λ (x : Flow). AreGiven x k.events) (sym m.left) k.may);
  short = short_then m.events k.events f m.short (subst (λ (x : Flow). AreShort x k.events) (sym m.left) k.short);
  left = run_then m.events k.events f ∙ ap (run_um_pdcp k.events) m.left ∙ k.left;
  sdus_are = more f.sdus g.sdus h.sdus a b m.sdus_are k.sdus_are;
  ups_are = more f.up g.up h.up u v m.ups_are k.ups_are;
  handed_are = more f.handed g.handed h.handed ps qs m.handed_are k.handed_are;
  submitted_is =
      submitted_then m.events k.events ∙ ap (λ (l : List (List ℕ)). l ++ submitted_in (steps k.events)) m.submitted_is
      ∙ ap (λ (l : List (List ℕ)). s ++ l) k.submitted_is;
}

-- ---- a direction as its life begins, and what RLC's laws tell of it

pub record Joins (bits : ℕ) (from to : State) (f : Flow) : Type 0 where
  pub sender_is : f.sender ≡ from.pdcp.tx
  pub receiver_is : f.receiver ≡ to.pdcp.rx
  pub kind : f.receiver.kind ≡ UmKind bits
  pub stream_is : f.stream ≡ []
  pub passed_is : f.passed ≡ 0
  pub earlier_is : f.earlier ≡ length f.sdus
  pub from_data : IsOfData bits from
  pub to_data : IsOfData bits to

pub record IsWay (bits reorder : ℕ) (w : Way) : Type 0 where
  pub from_is : all_called w.from w.from_calls ≡ w.from_end.bearer
  pub to_is : all_called w.to w.to_calls ≡ w.to_end.bearer
  pub came : IsWhatCameInLife bits reorder w
  pub rest : GoesOn bits reorder w w

module _ (pdcp_bits bits reorder : ℕ) (w : Way) (f : Flow) (j : Joins pdcp_bits w.from w.to f)
    (is : IsWay bits reorder w) (ok : AreAccepted w.from w.from_calls) where
  abbrev pub sending : Sends f (all_called w.from w.from_calls).pdcp.tx (taken w) (given w) (submitted w)
  sending = sends_all pdcp_bits w.from w.from_calls f j.from_data j.sender_is ok

  -- first all calls of the end that sends
  abbrev pub given_all : Flow
  given_all = sent f (all_called w.from w.from_calls).pdcp.tx (taken w) sending.nexts

  pub stream_given : octets given_all.stream ≡ given w
  stream_given = octets_then f.stream sending.nexts
      ∙ ap (λ (l : List Next). octets l ++ octets sending.nexts) j.stream_is ∙ sending.given_is

  lengths : (ns : List Next) → length (octets ns) ≡ length ns
  lengths [] = refl
  lengths (n ∷ ns) = ap suc (lengths ns)

  given_long : length (given w) ≡ length given_all.stream
  given_long = ap length (sym stream_given) ∙ lengths given_all.stream

  -- then what RLC hands up in the life
  abbrev pub handed_up : Flow
  handed_up = risen Arrived (places bits reorder w) given_all

  handing : FewBetween pdcp_bits 0 (places bits reorder w) → HandsUp given_all handed_up
  handing few =
      all_up Arrived pdcp_bits (places bits reorder w) given_all j.kind
      (subst (λ (n : ℕ). AreBetween f.passed (places bits reorder w) n) given_long
      (subst (λ (n : ℕ). AreBetween n (places bits reorder w) (length (given w))) (sym j.passed_is)
      is.came.order))
      (subst (λ (n : ℕ). FewBetween pdcp_bits n (places bits reorder w)) (sym j.passed_is) few)

  those_heard : those (places bits reorder w) (octets given_all.stream) ≡ heard w
  those_heard = ap (those (places bits reorder w)) stream_given ∙ sym is.came.heard_is

  pub receiver_heard : handed_up.receiver ≡ w.to_end.bearer.pdcp.rx
  receiver_heard =
      ap (λ (l : List (List ℕ)). hears Arrived l f.receiver) those_heard ∙ ap (hears Arrived (heard w)) j.receiver_is
      ∙ sym (hears_what_is_handed pdcp_bits w.to w.to_calls j.to_data).heard ∙ ap (λ (b : State). b.pdcp.rx) is.to_is

  pub to_stays : IsOfData pdcp_bits w.to_end.bearer
  to_stays = subst (IsOfData pdcp_bits) is.to_is (hears_what_is_handed pdcp_bits w.to w.to_calls j.to_data).stays

  ups_heard : raises Arrived (those (places bits reorder w) (octets given_all.stream)) f.receiver ≡ ups w
  ups_heard =
      ap (λ (l : List (List ℕ)). raises Arrived l f.receiver) those_heard ∙ ap (raises Arrived (heard w)) j.receiver_is
      ∙ sym (hears_what_is_handed pdcp_bits w.to w.to_calls j.to_data).ups

  pub in_life : FewBetween pdcp_bits 0 (places bits reorder w)
      → Goes f handed_up (taken w) (ups w) (map (λ place. f.earlier + place) (places bits reorder w)) (submitted w)
  in_life few =
      let k = handing few in
      record {
        events = sending.events ++ k.events;
        may =
            given_then sending.events k.events f sending.may
            (subst (λ (x : Flow). AreGiven x k.events) (sym sending.left) k.may);
        short = short_then sending.events k.events f sending.short
            (subst (λ (x : Flow). AreShort x k.events) (sym sending.left) k.short);
        left = run_then sending.events k.events f ∙ ap (run_um_pdcp k.events) sending.left ∙ k.left;
        sdus_are = refl;
        ups_are = ap (λ (l : List (List ℕ)). f.up ++ l) ups_heard;
        handed_are = refl;
        submitted_is =
            submitted_then sending.events k.events
            ∙ ap (λ (l : List (List ℕ)). submitted_in (steps sending.events) ++ l) k.submits_none
            ∙ append-nil (submitted_in (steps sending.events)) ∙ sending.submitted_is;
      }

  -- and as it ends all that RLC can put together
  abbrev pub rest_up : Flow
  rest_up = risen Reestablished is.rest.last.rest handed_up

  same_end : (xs ys zs : List (List ℕ)) → xs ++ ys ≡ xs ++ zs → ys ≡ zs
  same_end [] ys zs q = q
  same_end (x ∷ xs) ys zs q = same_end xs ys zs cc

  those_joined : those is.rest.last.rest (octets given_all.stream) ≡ all_joined w.to_end.bearer.rx
  those_joined = ap (those is.rest.last.rest) stream_given
      ∙ sym (same_end (heard w) (all_joined w.to_end.bearer.rx) (those is.rest.last.rest (given w))
      is.rest.last.new_is)

  at_end : HearsTheRest w.to_end.bearer
  at_end = hears_the_rest_at_the_end pdcp_bits w.to_end.bearer to_stays

  abbrev joined : List (List ℕ)
  joined = all_joined w.to_end.bearer.rx

  pub receiver_rest : rest_up.receiver ≡ hears Reestablished joined w.to_end.bearer.pdcp.rx
  receiver_rest = ap (λ (l : List (List ℕ)). hears Reestablished l handed_up.receiver) those_joined
      ∙ ap (hears Reestablished joined) receiver_heard

  ups_rest : raises Reestablished (those is.rest.last.rest (octets given_all.stream)) handed_up.receiver
      ≡ ups_among (stopping (Um w.to_end.bearer))
  ups_rest = ap (λ (l : List (List ℕ)). raises Reestablished l handed_up.receiver) those_joined
      ∙ ap (raises Reestablished joined) receiver_heard ∙ sym at_end.ups

  kind_heard : handed_up.receiver.kind ≡ UmKind pdcp_bits
  kind_heard = hears_kind Arrived (those (places bits reorder w) (octets given_all.stream)) f.receiver ∙ j.kind

  pub kind_rest : rest_up.receiver.kind ≡ UmKind pdcp_bits
  kind_rest = hears_kind Reestablished (those is.rest.last.rest (octets given_all.stream)) handed_up.receiver
      ∙ kind_heard

  rest_handing : FewBetween pdcp_bits (behind 0 (places bits reorder w)) is.rest.last.rest → HandsUp handed_up rest_up
  rest_handing few =
      let low : behind 0 (places bits reorder w) ≡ handed_up.passed =
      ap (λ (n : ℕ). behind n (places bits reorder w)) (sym j.passed_is) in
      all_up Reestablished pdcp_bits is.rest.last.rest handed_up kind_heard
      (subst (λ (n : ℕ). AreBetween handed_up.passed is.rest.last.rest n) given_long
      (subst (λ (n : ℕ). AreBetween n is.rest.last.rest (length (given w))) low is.rest.last.order))
      (subst (λ (n : ℕ). FewBetween pdcp_bits n is.rest.last.rest) low few)

  rest_goes : FewBetween pdcp_bits (behind 0 (places bits reorder w)) is.rest.last.rest
      → Goes handed_up rest_up [] (ups_among (stopping (Um w.to_end.bearer)))
      (map (λ place. f.earlier + place) is.rest.last.rest) []
  rest_goes few =
      let k = rest_handing few in
      record {
        events = k.events;
        may = k.may;
        short = k.short;
        left = k.left;
        sdus_are = sym (append-nil handed_up.sdus);
        ups_are = ap (λ (l : List (List ℕ)). handed_up.up ++ l) ups_rest;
        handed_are = refl;
        submitted_is = k.submits_none;
      }

  map_then : (xs ys : List ℕ) → map (λ place. f.earlier + place) (xs ++ ys)
      ≡ map (λ place. f.earlier + place) xs ++ map (λ place. f.earlier + place) ys
  map_then [] ys = refl
  map_then (x ∷ xs) ys = ap (λ (l : List ℕ). (f.earlier + x) ∷ l) (map_then xs ys)

  pub to_end : FewBetween pdcp_bits 0 (last_places bits reorder w)
      → Goes f rest_up (taken w) (ups_to_end w) (map (λ place. f.earlier + place) (last_places bits reorder w))
      (submitted w)
  to_end few =
      let ps : List ℕ = places bits reorder w in
      let rest : List ℕ = is.rest.last.rest in
      let both = few_then pdcp_bits 0 ps rest (subst (FewBetween pdcp_bits 0) is.rest.last.later_is few) in
      let m : Goes f rest_up (taken w ++ []) (ups_to_end w)
      (map (λ place. f.earlier + place) ps ++ map (λ place. f.earlier + place) rest) (submitted w ++ []) =
      goes_then f handed_up rest_up (taken w) [] (ups w) (ups_among (stopping (Um w.to_end.bearer)))
      (map (λ place. f.earlier + place) ps) (map (λ place. f.earlier + place) rest) (submitted w) [] (in_life both.0)
      (rest_goes both.1) in
      let all : map (λ place. f.earlier + place) ps ++ map (λ place. f.earlier + place) rest
      ≡ map (λ place. f.earlier + place) (last_places bits reorder w) =
      sym (map_then ps rest) ∙ ap (map (λ place. f.earlier + place)) (sym is.rest.last.later_is) in
      subst (λ (l : List (List ℕ)). Goes f rest_up l (ups_to_end w)
      (map (λ place. f.earlier + place) (last_places bits reorder w)) (submitted w)) (append-nil (taken w))
      (subst (λ (l : List (List ℕ)). Goes f rest_up (taken w ++ []) (ups_to_end w)
      (map (λ place. f.earlier + place) (last_places bits reorder w)) l) (append-nil (submitted w))
      (subst (λ (l : List ℕ). Goes f rest_up (taken w ++ []) (ups_to_end w) l (submitted w ++ [])) all m))

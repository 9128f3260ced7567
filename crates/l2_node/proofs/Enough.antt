-- A new block is wanted only by a grant.
use Rattle.std.proofs.Common.{◌≡◌, ◌≤◌, ℕ, Option, Some, None}
use Rattle.harq.specs.declared.sender.Order.{Order}
use Rattle.harq.specs.declared.sender.Order.TheVariants.{Silent, Unseen, Free, Grant}
use Rattle.harq.specs.declared.sender.Visit.TheVariants.{New, Silent as Nothing}
use Rattle.harq.specs.Sending.{Block, Sending, SendProcess, process_at, resend_or, answered, visit_answer}
use Rattle.l2_node.specs.Building.{IsEnough}

unseen : (held : Option Block) (grant : ℕ) → resend_or Nothing held ≡ New → 1 ≤ grant
unseen None grant e = let no : Nothing ≡ New = e in cc
unseen (Some b) grant e = cc

by_order : (order : Order) (p : SendProcess) (grant : ℕ) → IsEnough order grant → answered order p ≡ New → 1 ≤ grant
by_order Silent p grant h e = let no : Nothing ≡ New = e in cc
by_order Unseen p grant h e = unseen p.held grant e
by_order Free p grant h e = h
by_order (Grant ndi) p grant h e = h

pub new_enough : (order : Order) (s : Sending) (tti grant : ℕ) → IsEnough order grant → visit_answer s tti order ≡ New
    → 1 ≤ grant
unfolding visit_answer
new_enough order s tti grant h e = by_order order (process_at s tti) grant h e

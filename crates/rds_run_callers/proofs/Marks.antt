-- The list of ports tells which slot's socket holds a port.
use Rattle.std.proofs.Common.{◌≡◌, ◌≢◌, ℕ, ◌<◌, ◌≤◌, Bool, true, false, List, length, map, Option, Some, None, IfSome, IfNone, slice_get, refl, sym, ap, subst, ◌∙◌, arith, eqb-true}
use Rattle.std.specs.Option.{option_map}
use Rattle.std.proofs.lemmas.Bool.{eq-eqb}
use Rattle.std.proofs.lemmas.Option.{slice_get-map, slice_get_within}
use Rattle.rds_run_callers.specs.States.{AreNot, holds_port, is_port, port_mark}
use Rattle.rds_run_callers.specs.declared.state.State.{State}
use Rattle.rds_run_callers.specs.declared.state.State.TheVariants as state
use Rattle.rds_run_callers.proofs.Seen.{mapped}

not_true : (b : Bool) → (b ≡ true → ⊥) → b ≡ false
not_true true f = absurd (f refl)
not_true false f = refl

not_both : (b : Bool) → b ≡ true → b ≡ false → ⊥
not_both b is isnt = absurd (cc)

mark_held : (port : ℕ) (x : State) → port ≢ 0 → port_mark x ≡ port → holds_port port x ≡ true
mark_held port (state.Vacant h) some e = absurd (some (sym e))
mark_held port (state.Bound t) some e = eq-eqb t.socket.port port e
mark_held port (state.Ended f) some e = absurd (some (sym e))
mark_held port (state.Spare s) some e = absurd (some (sym e))
mark_held port state.Away some e = absurd (some (sym e))

held_mark : (port : ℕ) (x : State) → holds_port port x ≡ true → (port_mark x ≡ port) × (2 ≤ port)
held_mark port (state.Vacant h) held = absurd (cc)
held_mark port (state.Bound t) held =
    let same : t.socket.port ≡ port = eqb-true t.socket.port port held in
    (same, subst (λ (q : ℕ). 2 ≤ q) same t.low)
held_mark port (state.Ended f) held = absurd (cc)
held_mark port (state.Spare s) held = absurd (cc)
held_mark port state.Away held = absurd (cc)

-- no socket holds port 0
pub none_zero : (port : ℕ) (states : List State) → port ≡ 0 → AreNot (holds_port port) states
none_zero port states zero slot x at = not_true (holds_port port x) (λ held. let low = (held_mark port x held).1 in omega arith)

module _ (port : ℕ) (ports : List ℕ) (states : List State) (marked : ports ≡ map port_mark states) where
  marked_at : (slot : ℕ) → slice_get ports slot ≡ option_map port_mark (slice_get states slot)
  marked_at slot = ap (λ l. slice_get l slot) marked ∙ slice_get-map port_mark states slot

  none_held : AreNot (is_port port) ports → AreNot (holds_port port) states
  none_held none slot x at = not_true (holds_port port x) (λ held.
      not_both (is_port port (port_mark x)) (eq-eqb (port_mark x) port (held_mark port x held).0) (none slot (port_mark x) (marked_at slot ∙ ap (option_map port_mark) at)))

  -- no socket holds a port that isn't in the list
  pub none_marked : (r : Option ℕ) → IfNone r (AreNot (is_port port) ports) → IfNone r (AreNot (holds_port port) states)
  none_marked None none = none_held none
  none_marked (Some slot) none = tt

  -- where the port stands in the list its socket is
  pub found_marked : (r : Option ℕ) → port ≢ 0 → IfSome r (λ slot. (held : ℕ) × (slice_get ports slot ≡ Some held) × (is_port port held ≡ true))
      → IfSome r (λ slot. (x : State) × (slice_get states slot ≡ Some x) × (holds_port port x ≡ true))
  found_marked None some found = tt
  found_marked (Some slot) some found =
      let m = mapped port_mark (slice_get states slot) found.0 (sym (marked_at slot) ∙ found.1) in
      (m.0, m.1, mark_held port m.0 some (m.2 ∙ eqb-true found.0 port found.2))

  pub within_marked : (r : Option ℕ) (end : ℕ) → length states ≡ end → IfSome r (λ slot. (held : ℕ) × (slice_get ports slot ≡ Some held) × (is_port port held ≡ true)) → IfSome r (λ slot. slot < end)
  within_marked None end size found = tt
  within_marked (Some slot) end size found =
      let m = mapped port_mark (slice_get states slot) found.0 (sym (marked_at slot) ∙ found.1) in
      let small = slice_get_within states slot m.0 m.1 in
      omega arith

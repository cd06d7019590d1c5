-- Each item of a list tells something, after one item was replaced.
use Rattle.std.proofs.Common.{◌≡◌, ⊎_elim, ℕ, ◌+◌, ◌*◌, ◌<◌, ◌≤◌, List, length, get_or, set, sym, ◌∙◌, ap, subst, arith}
use Rattle.std.proofs.lemmas.Bool.{cases_eq}
use Rattle.std.proofs.lemmas.List.{get_or-set_same, get_or-set_other}
use Rattle.rds_history.specs.Events.{Event}
use Rattle.rds_play_hosts.specs.declared.host.ScriptHost.{ScriptHost}
use Rattle.rds_play_hosts.specs.Telling.{TellsHost}
use Rattle.rds_play_world.specs.declared.peer_map.PeerMap.{PeerMap}
use Rattle.rds_play_world.specs.Telling.{HostsTell, PeersTell, TellsPeer}

-- one host was replaced
pub hosts_replaced : (hosts h : ℕ) (past later : List Event) (xs : List ScriptHost) (y : ScriptHost) → h < length xs →
    HostsTell hosts past xs → TellsHost h later y → ((a : ℕ) (x : ScriptHost) → (a ≡ h → ⊥) → TellsHost a past x → TellsHost a later x) →
    HostsTell hosts later (set xs h y)
hosts_replaced hosts h past later xs y h_in each told others = λ a a_in x is.
    ⊎_elim
    (λ (e : a ≡ h).
    let here : x ≡ y = is ∙ ap (λ i. get_or (set xs h y) i x) e ∙ get_or-set_same xs h y x h_in in
    subst (λ i. TellsHost i later x) (sym e) (subst (λ z. TellsHost h later z) (sym here) told))
    (λ (apart : a ≡ h → ⊥). others a x apart (each a a_in x (is ∙ get_or-set_other xs h a y x apart)))
    (cases_eq a h)

-- none was
pub hosts_kept : (hosts : ℕ) (past later : List Event) (xs : List ScriptHost) → HostsTell hosts past xs →
    ((a : ℕ) (x : ScriptHost) → TellsHost a past x → TellsHost a later x) → HostsTell hosts later xs
hosts_kept hosts past later xs each step = λ a a_in x is. step a x (each a a_in x is)

-- two places are one only for the same hosts
one_place : (a b h k : ℕ) → b < 8 → k < 8 → 8 * a + b ≡ 8 * h + k → (a ≡ h) × (b ≡ k)
one_place a b h k b_in k_in e = (omega arith, omega arith)

-- what a host knows of one peer was replaced
pub peers_replaced : (hosts h k : ℕ) (past later : List Event) (ps : List PeerMap) (q : PeerMap) → hosts ≤ 8 → h < hosts → k < hosts → length ps ≡ 64 →
    PeersTell hosts past ps → TellsPeer h k later q → ((a b : ℕ) (p : PeerMap) → (a ≡ h → b ≡ k → ⊥) → TellsPeer a b past p → TellsPeer a b later p) →
    PeersTell hosts later (set ps (8 * h + k) q)
peers_replaced hosts h k past later ps q few h_in k_in size each told others = λ a b a_in b_in p is.
    ⊎_elim
    (λ (e : 8 * a + b ≡ 8 * h + k).
    let same = one_place a b h k (omega (arith, b_in, few)) (omega (arith, k_in, few)) e in
    let here : p ≡ q = is ∙ ap (λ i. get_or (set ps (8 * h + k) q) i p) e ∙ get_or-set_same ps (8 * h + k) q p (omega (arith, size, h_in, k_in, few)) in
    subst (λ i. TellsPeer i b later p) (sym same.0) (subst (λ j. TellsPeer h j later p) (sym same.1) (subst (λ z. TellsPeer h k later z) (sym here) told)))
    (λ (apart : 8 * a + b ≡ 8 * h + k → ⊥).
    others a b p (λ e f. apart (ap (λ i. 8 * i + b) e ∙ ap (λ j. 8 * h + j) f))
    (each a b a_in b_in p (is ∙ get_or-set_other ps (8 * h + k) (8 * a + b) q p apart)))
    (cases_eq (8 * a + b) (8 * h + k))

pub peers_kept : (hosts : ℕ) (past later : List Event) (ps : List PeerMap) → PeersTell hosts past ps →
    ((a b : ℕ) (p : PeerMap) → TellsPeer a b past p → TellsPeer a b later p) → PeersTell hosts later ps
peers_kept hosts past later ps each step = λ a b a_in b_in p is. step a b p (each a b a_in b_in p is)

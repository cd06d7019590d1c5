-- What a host tells in the end of its sockets.
use Rattle.std.proofs.Common.{◌≡◌, ℕ, zero, suc, ◌+◌, ◌<◌, List, [], ◌∷◌, ◌++◌, length, map, get_or, refl, sym, ◌∙◌, ap, subst, arith}
use Rattle.std.specs.List.{range_with_len}
use Rattle.std.proofs.lemmas.List.{map-append}
use Rattle.rds_text.specs.Ports.{below}
use Rattle.rds_model.specs.declared.order.Datagram.{Datagram}
use Rattle.rds_history.specs.Events.{Event}
use Rattle.rds_text.specs.FinalState.{FinalSocket as Kept}
use Rattle.rds_history.specs.History.{socket, sockets}
use Rattle.rds_history.specs.Sockets.{bound_port, handed_out}
use Rattle.rds_play_hosts.specs.declared.host.Arrived.{Arrived}
use Rattle.rds_play_hosts.specs.declared.host.ScriptHost.{ScriptHost}
use Rattle.rds_play_hosts.specs.declared.host.ScriptSocket.{ScriptSocket}
use Rattle.rds_play_hosts.specs.Telling.{TellsHost, TellsSocket}

pub map_push : {X Y : Type 0} (f : X → Y) (xs : List X) (x : X) → map f (xs ++ x ∷ []) ≡ map f xs ++ f x ∷ []
map_push f xs x = map-append f xs (x ∷ [])

range_push : (a n : ℕ) → range_with_len a n ++ (a + n) ∷ [] ≡ range_with_len a (suc n)
range_push a zero = let e : a + 0 ≡ a = omega arith in ap (λ i. i ∷ []) e
range_push a (suc n) =
    let e : a + suc n ≡ a + 1 + n = omega arith in
    ap (λ (l : List ℕ). a ∷ l) (ap (λ i. range_with_len (a + 1) n ++ i ∷ []) e ∙ range_push (a + 1) n)

below_range : (n : ℕ) → below n ≡ range_with_len 0 n
below_range zero = refl
below_range (suc n) =
    let e : n ≡ 0 + n = omega arith in
    ap (λ (l : List ℕ). l ++ n ∷ []) (below_range n) ∙ ap (λ i. range_with_len 0 n ++ i ∷ []) e ∙ range_push 0 n

-- items that are told by their places
numbered : {X Y : Type 0} (f : X → Y) (g : ℕ → Y) (a : ℕ) (xs : List X) →
    ((k : ℕ) → k < length xs → (x : X) → x ≡ get_or xs k x → f x ≡ g (a + k)) → map f xs ≡ map g (range_with_len a (length xs))
numbered f g a [] each = refl
numbered {X} {Y} f g a (x ∷ xs) each =
    let e : a + 0 ≡ a = omega arith in
    ap (λ (y : Y). y ∷ map f xs) (each 0 (omega arith) x refl ∙ ap g e)
    ∙ ap (λ (l : List Y). g a ∷ l) (numbered f g (a + 1) xs (λ k k_in y is.
    let s : a + suc k ≡ a + 1 + k = omega arith in each (suc k) (omega arith) y is ∙ ap g s))

-- a socket as one of the end
abbrev pub left_by : ScriptSocket → Kept
left_by s = record { slot = s.slot; port = s.port; got = s.got.items; unread = map (λ (a : Arrived). a.datagram) s.queue.items }

pub sockets_left : (h : ℕ) (past : List Event) (x : ScriptHost) → TellsHost h past x → map left_by x.sockets.items ≡ sockets h past
sockets_left h past x t =
    numbered left_by (socket h past) 0 x.sockets.items (λ k k_in s is. left k s (t.sockets_are k (subst (λ n. k < n) t.binds_are k_in) s is))
    ∙ ap (map (socket h past)) (sym (below_range (length x.sockets.items))) ∙ ap (λ n. map (socket h past) (below n)) t.binds_are
  where
    left : (k : ℕ) (s : ScriptSocket) → TellsSocket h k past s → left_by s ≡ socket h past (0 + k)
    left k s told =
        ap (λ i. record { slot = i; port = s.port; got = s.got.items; unread = map (λ (a : Arrived). a.datagram) s.queue.items }) told.slot_is
        ∙ ap (λ i. record { slot = k; port = i; got = s.got.items; unread = map (λ (a : Arrived). a.datagram) s.queue.items }) told.port_is
        ∙ ap (λ (ds : List Datagram). record { slot = k; port = bound_port h k past; got = ds; unread = map (λ (a : Arrived). a.datagram) s.queue.items }) told.got_is
        ∙ ap (λ (ds : List Datagram). record { slot = k; port = bound_port h k past; got = handed_out h k past; unread = ds }) told.queue_is
        ∙ (let e : k ≡ 0 + k = omega arith in ap (socket h past) e)

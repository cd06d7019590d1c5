-- The first word of a line, its name, and the row of the table.
use Rattle.std.proofs.Common.{◌≡◌, ℕ, Bool, true, false, cond, List, [], ◌∷◌, drop, Option, Some, None, refl, sym, ap, subst, ◌∙◌, inl, inr}
use Rattle.std.specs.Option.{option_map}
use Rattle.std.specs.Str.{bytes_eq}
use Rattle.std.proofs.lemmas.Slice.Eq.{bytes_eq-Decides}
use Rattle.rds_script.specs.declared.script.Command.{Command}
use Rattle.rds_script.specs.declared.script.Command.TheVariants as command
use Rattle.rds_script.specs.declared.name.Name.{Name}
use Rattle.rds_script.specs.declared.name.Name.TheVariants.{Hosts, Bind, BindAny, Send, Recv, Cancel, Close, Open, Move, Cut, Drain}
use Rattle.rds_script.specs.Line as line
use Rattle.rds_script.specs.Line.{Place, a_host, another_host, a_number, a_payload, Value, the_number, the_bytes, Stands, Fills, places, values_of}
use Rattle.rds_script.specs.Reading.{name_word, places_of, name_of, is_hosts, as_number, as_bytes, value_in, command_of}
use Rattle.rds_script.proofs.Binds.{chosen}

-- a choice seen by a function
map-choice : {A B : Type 0} (f : A → B) (t : Bool) (x y : Option A) → option_map f (cond t x y) ≡ cond t (option_map f x) (option_map f y)
map-choice f true x y = refl
map-choice f false x y = refl

-- the table has a row exactly for the names
pub places-name : (word : List ℕ) → places word ≡ option_map places_of (name_of word)
unfolding name_of
places-name word = sym (simp map-choice)

-- one test of a name
is_word : (word name : List ℕ) (x n : Name) (y : Option Name) → name_word x ≡ name → (y ≡ Some n → word ≡ name_word n) → cond (bytes_eq word name) (Some x) y ≡ Some n → word ≡ name_word n
is_word word name x n y x-is others e =
    elim (chosen (bytes_eq word name) (Some x) y (Some n) e) [
      | inl t ↦
          let same : x ≡ n = cc in
          (bytes_eq-Decides word name).0 t.0 ∙ sym x-is ∙ ap name_word same
      | inr t ↦ others t.1
    ]

pub name-word : (word : List ℕ) (n : Name) → name_of word ≡ Some n → word ≡ name_word n
unfolding name_of
name-word w n e =
    is_word w _ Hosts n _ refl
    (is_word w _ Bind n _ refl
    (is_word w _ BindAny n _ refl
    (is_word w _ Send n _ refl
    (is_word w _ Recv n _ refl
    (is_word w _ Cancel n _ refl
    (is_word w _ Close n _ refl
    (is_word w _ Open n _ refl
    (is_word w _ Move n _ refl
    (is_word w _ Cut n _ refl
    (is_word w _ Drain n _ refl (λ none. absurd (none_some none))))))))))))
    e
  where
    none_some : None ≡ Some n → ⊥
    none_some none = cc

pub name-again : (n : Name) → name_of (name_word n) ≡ Some n
unfolding name_of
name-again Hosts = refl
name-again Bind = refl
name-again BindAny = refl
name-again Send = refl
name-again Recv = refl
name-again Cancel = refl
name-again Close = refl
name-again Open = refl
name-again Move = refl
name-again Cut = refl
name-again Drain = refl

pub places-of : (n : Name) → places (name_word n) ≡ Some (places_of n)
places-of n = places-name (name_word n) ∙ ap (option_map places_of) (name-again n)

-- ---- a command has a name, and is made of its values

unfoldable pub named_by : Command → Name
named_by (command.Bind h p s r) = Bind
named_by (command.BindAny h p s r) = BindAny
named_by (command.Send h p t d b) = Send
named_by (command.Recv h p) = Recv
named_by (command.Cancel h p t d) = Cancel
named_by (command.Close h p) = Close
named_by (command.Open h t) = Open
named_by (command.Move h t n) = Move
named_by (command.Cut h t) = Cut
named_by command.Drain = Drain

-- what is known of the name of a command
pub record IsNamed (c : Command) (n : Name) : Type 0 where
  pub word : name_word n ≡ line.name_of c
  pub other : is_hosts n ≡ false
  pub made : command_of n (values_of c) ≡ c

pub named : (c : Command) → IsNamed c (named_by c)
unfolding named_by
named (command.Bind h p s r) = record { word = refl; other = refl; made = refl }
named (command.BindAny h p s r) = record { word = refl; other = refl; made = refl }
named (command.Send h p t d b) = record { word = refl; other = refl; made = refl }
named (command.Recv h p) = record { word = refl; other = refl; made = refl }
named (command.Cancel h p t d) = record { word = refl; other = refl; made = refl }
named (command.Close h p) = record { word = refl; other = refl; made = refl }
named (command.Open h t) = record { word = refl; other = refl; made = refl }
named (command.Move h t n) = record { word = refl; other = refl; made = refl }
named (command.Cut h t) = record { word = refl; other = refl; made = refl }
named command.Drain = record { word = refl; other = refl; made = refl }

-- a value of the kind of its place
canon : Place → Value → Value
canon a_host v = the_number (as_number v)
canon another_host v = the_number (as_number v)
canon (a_number low high) v = the_number (as_number v)
canon a_payload v = the_bytes (as_bytes v)

stands-canon : (hosts : ℕ) (first w : List ℕ) (p : Place) (v : Value) → Stands hosts first p w v → v ≡ canon p v
unfolding canon
stands-canon hosts first w a_host (the_number n) h = refl
stands-canon hosts first w another_host (the_number n) h = refl
stands-canon hosts first w (a_number low high) (the_number n) h = refl
stands-canon hosts first w a_payload (the_bytes b) h = refl
stands-canon hosts first w a_host (the_bytes b) h = absurd h
stands-canon hosts first w another_host (the_bytes b) h = absurd h
stands-canon hosts first w (a_number low high) (the_bytes b) h = absurd h
stands-canon hosts first w a_payload (the_number n) h = absurd h

canons : List Place → List Value → List Value
canons [] vs = []
canons (p ∷ ps) vs = canon p (value_in vs 0) ∷ canons ps (drop 1 vs)

fills-canons : (hosts : ℕ) (first : List ℕ) (ps : List Place) (ws : List (List ℕ)) (vs : List Value) → Fills hosts first ps ws vs → vs ≡ canons ps vs
unfolding canons
fills-canons hosts first [] [] [] h = refl
fills-canons hosts first (p ∷ ps) (w ∷ ws) (v ∷ vs) h =
    let head = stands-canon hosts first w p v h.0 in
    let tail = fills-canons hosts first ps ws vs h.1 in
    cc
fills-canons hosts first ps ws vs h = absurd h

rebuilt : (n : Name) (vs : List Value) → is_hosts n ≡ false → values_of (command_of n (canons (places_of n) vs)) ≡ canons (places_of n) vs
unfolding canons canon
rebuilt Hosts vs other = absurd cc
rebuilt Bind vs other = refl
rebuilt BindAny vs other = refl
rebuilt Send vs other = refl
rebuilt Recv vs other = refl
rebuilt Cancel vs other = refl
rebuilt Close vs other = refl
rebuilt Open vs other = refl
rebuilt Move vs other = refl
rebuilt Cut vs other = refl
rebuilt Drain vs other = refl

command-name : (n : Name) (vs : List Value) → is_hosts n ≡ false → line.name_of (command_of n vs) ≡ name_word n
command-name Hosts vs other = absurd cc
command-name Bind vs other = refl
command-name BindAny vs other = refl
command-name Send vs other = refl
command-name Recv vs other = refl
command-name Cancel vs other = refl
command-name Close vs other = refl
command-name Open vs other = refl
command-name Move vs other = refl
command-name Cut vs other = refl
command-name Drain vs other = refl

-- the command that is made of the values has the name and these values
pub record IsMade (n : Name) (vs : List Value) : Type 0 where
  pub word : line.name_of (command_of n vs) ≡ name_word n
  pub values : values_of (command_of n vs) ≡ vs

pub made : (hosts : ℕ) (first : List ℕ) (n : Name) (ws : List (List ℕ)) (vs : List Value) → is_hosts n ≡ false → Fills hosts first (places_of n) ws vs → IsMade n vs
made hosts first n ws vs other h =
    let e = fills-canons hosts first (places_of n) ws vs h in
    record { word = command-name n vs other; values = subst (λ (v : List Value). values_of (command_of n v) ≡ v) (sym e) (rebuilt n vs other) }

-- the number of a `hosts` line
pub hosts_made : (hosts : ℕ) (first : List ℕ) (ws : List (List ℕ)) (v : Value) → Fills hosts first (places_of Hosts) ws (v ∷ []) → v ≡ the_number (as_number v)
unfolding canon
hosts_made hosts first [] v h = absurd h
hosts_made hosts first (w ∷ []) v h = stands-canon hosts first w (a_number 2 8) v h.0
hosts_made hosts first (w ∷ x ∷ ws) v h = absurd h.1

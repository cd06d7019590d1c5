-- What words of commands have in common: those of one command are not those of another, and they say one thing.
use Rattle.std.proofs.Common.{◌≡◌, ℕ, ◌≤◌, ◌<◌, ◌^◌, List, Option, Some, None, String, codes, map, slice_get, slice_index, string_bytes, sym, ap, unwrap_or, ◌∙◌, refl, arith}
use Rattle.std.specs.Global.{Global}
use Rattle.std.proofs.lemmas.Fmt.{decimal_injective}
use Rattle.rds_run.specs.declared.wire.RunWire.{RunWire}
use Rattle.rds_run.specs.declared.wire.RunWire.TheVariants as wire
use Rattle.rds_run.specs.GenWords.{AreGen, IsNamed, gen_word}
use Rattle.rds_run.specs.PlayWords.{ArePlay}
use Rattle.rds_run.specs.RunWords.{AreRun, NamesWire, wire_named}

-- a number of sends is in range
pub sends_in : (word : Option (List ℕ)) (n : ℕ) → IsNamed 1 100000 word n → (1 ≤ n) × (n ≤ 100000)
sends_in None n is = absurd is
sends_in (Some word) n is = (is.least, is.most)

-- the names of two commands differ, so no words are those of both
same_name : (words : List (List ℕ)) (a b : List ℕ) → slice_get words 0 ≡ Some a → slice_get words 0 ≡ Some b → a ≡ b
same_name words a b one other = ap (λ (o : Option (List ℕ)). unwrap_or o a) (sym one ∙ other)

abbrev first_letter : List ℕ → ℕ
first_letter name = slice_index name 0

pub play_or_run : (words : List (String Global)) (over : RunWire) → ArePlay words → AreRun words over → ⊥
play_or_run words over play run =
    let e : 112 ≡ 114 = ap first_letter (same_name (map string_bytes words) (codes "play") (codes "run") play.0 run.0) in
    absurd (omega (arith, e))

pub play_or_gen : (words : List (String Global)) (sends seed : ℕ) → ArePlay words → AreGen words sends seed → ⊥
play_or_gen words sends seed play gen =
    let e : 112 ≡ 103 = ap first_letter (same_name (map string_bytes words) (codes "play") (codes "gen") play.0 gen.0) in
    absurd (omega (arith, e))

pub run_or_gen : (words : List (String Global)) (over : RunWire) (sends seed : ℕ) → AreRun words over → AreGen words sends seed → ⊥
run_or_gen words over sends seed run gen =
    let e : 114 ≡ 103 = ap first_letter (same_name (map string_bytes words) (codes "run") (codes "gen") run.0 gen.0) in
    absurd (omega (arith, e))

-- the words of `run` name one wire
same_name_of : (name : Option (List ℕ)) (one other : RunWire) → NamesWire name one → NamesWire name other → one ≡ other
same_name_of None wire.Memory wire.Memory a b = refl
same_name_of None wire.Memory wire.Tcp a b = absurd b
same_name_of None wire.Tcp other a b = absurd a
same_name_of (Some name) wire.Memory wire.Memory a b = refl
same_name_of (Some name) wire.Memory wire.Tcp a b = let e : 109 ≡ 116 = ap first_letter (sym a ∙ b) in absurd (omega (arith, e))
same_name_of (Some name) wire.Tcp wire.Memory a b = let e : 116 ≡ 109 = ap first_letter (sym a ∙ b) in absurd (omega (arith, e))
same_name_of (Some name) wire.Tcp wire.Tcp a b = refl

pub same_wire : (words : List (String Global)) (one other : RunWire) → AreRun words one → AreRun words other → one ≡ other
same_wire words one other a b = same_name_of (wire_named (map string_bytes words)) one other a.1.names b.1.names

-- a run that isn't one over TCP goes over memory
pub in_memory : (words : List (String Global)) (over : RunWire) → AreRun words over → (AreRun words wire.Tcp → ⊥) → over ≡ wire.Memory
in_memory words wire.Memory run other = refl
in_memory words wire.Tcp run other = absurd (other run)

-- the words of `gen` name one number of sends and one seed
same_word : (low high : ℕ) (word : Option (List ℕ)) (n k : ℕ) → high < 2 ^ 64 → IsNamed low high word n → IsNamed low high word k → n ≡ k
same_word low high None n k small one other = absurd one
same_word low high (Some word) n k small one other =
    let least : n < 2 ^ 64 = omega (arith, small, one.most) in
    let most : k < 2 ^ 64 = omega (arith, small, other.most) in
    decimal_injective n k least most (sym one.digits ∙ other.digits)

pub same_gen : (words : List (String Global)) (sends seed n k : ℕ) → AreGen words sends seed → AreGen words n k → (sends ≡ n) × (seed ≡ k)
same_gen words sends seed n k one other = (
  same_word 1 100000 (gen_word (codes "sends") (map string_bytes words)) sends n (omega arith) one.1.numbers.0 other.1.numbers.0,
  same_word 0 18446744073709551615 (gen_word (codes "seed") (map string_bytes words)) seed k (omega arith) one.1.numbers.1 other.1.numbers.1,
)

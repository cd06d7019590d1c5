-- On a stream that is about to be opened nothing was pulled and nothing was read.
use Rattle.std.proofs.Common.{◌≡◌, ℕ, ◌<◌, ◌&&◌, ◌||◌, ◌==◌, not, false, cond, Some, None, List, [], ◌∷◌, ◌++◌, refl, ◌∙◌, ap, arith}
use Rattle.std.proofs.lemmas.Bool.{ne_eqb}
use Rattle.rds_wire.specs.Bytes.{header_bytes}
use Rattle.rds_model.specs.declared.entry.Entry.{Entry}
use Rattle.rds_model.specs.declared.entry.Entry.TheVariants.{Open, Pull, Read, Bad}
use Rattle.rds_model.specs.Past.{now, accepted, newest_stream, is_datagram, carries_number}
use Rattle.rds_model.specs.Streams.{pulled_on, read_frames, refused_bytes}
use Rattle.rds_model.specs.Alive.{is_alive, alive_numbers, due_numbers}
use Rattle.rds_model.specs.Owed.{asks, is_map, wants_answer, last_map, unasked, is_asked, must_ask}
use Rattle.rds_model.specs.Legal.{IsLegal}
use Rattle.rds_model.specs.LegalityLaws.{lawful_open, lawful_pull, lawful_read, lawful_bad, open_is_newest}
use Rattle.rds_conn.proofs.Filters.{filter_none_done}

pub record Untouched (s : ℕ) (past : List Entry) : Type 0 where
  pub pulled : (n : ℕ) → pulled_on s past n ≡ false
  pub map : last_map s past ≡ None
  pub unasked : unasked s past ≡ []
  pub asked : is_asked s past ≡ false
  pub must : must_ask s past ≡ false
  pub reads : read_frames s past ≡ []
  pub refused : refused_bytes s past ≡ []

-- nothing was done on a stream above all others
pub untouched : (past : List Entry) → IsLegal past → (s : ℕ) → newest_stream past < s → Untouched s past
untouched [] legal s above = record { pulled = λ n. refl; map = refl; unasked = refl; asked = refl; must = refl; reads = refl; refused = refl }
untouched (Open stream ∷ past) legal s above =
    let older = untouched past legal.1 s (omega (arith, (lawful_open stream past legal).1)) in
    record { pulled = older.pulled; map = older.map; unasked = older.unasked; asked = older.asked; must = older.must; reads = older.reads; refused = older.refused }
untouched (Pull stream f ∷ past) legal s above =
    let older = untouched past legal.1 s above in
    let on = open_is_newest past legal.1 stream (lawful_pull stream f legal now).on in
    let other : (stream == s) ≡ false = ne_eqb stream s (λ e. omega (arith, on, e)) in
    record {
      pulled = λ n. ap (λ b. b && carries_number n f || pulled_on s past n) other ∙ older.pulled n;
      map = ap (λ b. cond (b && is_map f) (Some f.payload) (last_map s past)) other ∙ older.map;
      unasked = ap (λ b. cond (not b) (unasked s past) (cond (asks f) [] (cond (is_datagram f) (f ∷ unasked s past) (unasked s past)))) other ∙ older.unasked;
      asked = ap (λ b. not b && is_asked s past) other ∙ older.asked;
      must = ap (λ b. cond b (not (asks f) && (is_datagram f || must_ask s past)) (must_ask s past)) other ∙ older.must;
      reads = older.reads;
      refused = older.refused;
    }
untouched (Read stream f o ∷ past) legal s above =
    let older = untouched past legal.1 s above in
    let on = open_is_newest past legal.1 stream (lawful_read stream f o legal now).on in
    let other : (stream == s) ≡ false = ne_eqb stream s (λ e. omega (arith, on, e)) in
    record {
      pulled = older.pulled;
      map = older.map;
      unasked = older.unasked;
      asked = ap (λ b. b && wants_answer f || is_asked s past) other ∙ older.asked;
      must = older.must;
      reads = ap (λ b. cond b (read_frames s past ++ f ∷ []) (read_frames s past)) other ∙ older.reads;
      refused = older.refused;
    }
untouched (Bad stream h found ∷ past) legal s above =
    let older = untouched past legal.1 s above in
    let on = open_is_newest past legal.1 stream (lawful_bad stream h found legal now).on in
    let other : (stream == s) ≡ false = ne_eqb stream s (λ e. omega (arith, on, e)) in
    record {
      pulled = older.pulled;
      map = older.map;
      unasked = older.unasked;
      asked = older.asked;
      must = older.must;
      reads = older.reads;
      refused = ap (λ b. cond b (header_bytes h) (refused_bytes s past)) other ∙ older.refused;
    }
untouched (e ∷ past) legal s above =
    let older = untouched past legal.1 s above in
    record { pulled = older.pulled; map = older.map; unasked = older.unasked; asked = older.asked; must = older.must; reads = older.reads; refused = older.refused }

-- where nothing was pulled on a stream, all that are alive are due
pub due_of_untouched : (s : ℕ) (past : List Entry) → Untouched s past → due_numbers s past ≡ alive_numbers past
due_of_untouched s past new = filter_none_done (is_alive past) (pulled_on s past) (accepted past) new.pulled

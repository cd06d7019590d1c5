-- Laws, each proved: proofs in other crates use them. Nothing here has to be believed.
-- The three frames are lawful where they are due: each field of the header fits, and the payload has the length that it says.
use Rattle.std.proofs.Common.{◌≡◌, ◌≢◌, inl, inr, ℕ, ◌+◌, ◌<◌, ◌^◌, ◌||◌, Bool, true, false, Some, IsSome, is_some, List, [], length, refl, sym, ◌∙◌, ap, arith}
use Rattle.std.proofs.lemmas.List.{length-replicate}
use Rattle.std.proofs.lemmas.List.Elements.{All-replicate}
use Rattle.rds_wire.specs.declared.header.TheConstants.{CONG_BITMAP, ACK_REQUIRED, RETRANSMITTED}
use Rattle.rds_wire.specs.declared.kind.TheConstants.{MAP_LENGTH}
use Rattle.rds_wire.specs.Bytes.{IsBytes, IsHeader, computed}
use Rattle.rds_model.specs.declared.entry.Entry.{Entry}
use Rattle.rds_model.specs.Past.{Accepted, datagram, open_stream}
use Rattle.rds_model.specs.Streams.{was_pulled}
use Rattle.rds_model.specs.Alive.{due_numbers}
use Rattle.rds_model.specs.Owed.{header_of, last_map, is_asked, must_ask, map_frame, ack_frame, data_frame, data_flags, asks_with, flag_if}
use Rattle.rds_model.specs.Legal.{IsLegal, IsLawfulPull}
use Rattle.rds_model.specs.NumberLaws.{number_of_known}
use Rattle.rds_model.specs.BoundLaws.{few_accepted, datagram_fits, last_passed_fits}
use Rattle.rds_model.specs.FrameLaws.{len_of_header}
use Rattle.rds_model.specs.DueLaws.{IsLeastDue, none_due}

-- the fields of a header that is made of fitting numbers fit
header_fits : (past : List Entry) (number len sport dport flags : ℕ) → IsLegal past → number < 2 ^ 64 → len < 2 ^ 32 →
    sport < 2 ^ 16 → dport < 2 ^ 16 → flags < 2 ^ 8 → IsHeader (header_of past number len sport dport flags)
unfolding header_of computed
header_fits past number len sport dport flags legal fits_number fits_len fits_sport fits_dport fits_flags = record {
  sequence = fits_number;
  ack = last_passed_fits past legal;
  len = fits_len;
  sport = fits_sport;
  dport = fits_dport;
  flags = fits_flags;
  credit = omega arith;
  padding = (length-replicate {A = ℕ} 4 0, All-replicate (λ b. b < 256) 4 0 (omega arith));
  csum = omega arith;
  ext = (length-replicate {A = ℕ} 16 0, All-replicate (λ b. b < 256) 16 0 (omega arith));
}

flags_fit : (before asking : Bool) → flag_if before RETRANSMITTED + flag_if asking ACK_REQUIRED < 2 ^ 8
flags_fit = elim [ true ↦ elim [ true ↦ omega arith | false ↦ omega arith ] | false ↦ elim [ true ↦ omega arith | false ↦ omega arith ] ]

-- the three frames, each with a header that fits and the length that it says
pub map_is_lawful : (s : ℕ) (past : List Entry) (map : List ℕ) → IsLegal past → open_stream past ≡ Some s → length map ≡ MAP_LENGTH →
    IsBytes map → last_map s past ≢ Some map → IsLawfulPull s past (map_frame past map)
map_is_lawful s past map legal on long bytes new = record {
  on = on;
  header =
      header_fits past 0 MAP_LENGTH 0 0 CONG_BITMAP legal (omega arith) (omega arith) (omega arith) (omega arith) (omega arith);
  whole = long ∙ sym (len_of_header past 0 MAP_LENGTH 0 0 CONG_BITMAP);
  owed = inl (record { new = new; bytes = bytes; is = refl });
}

pub data_is_lawful : (s : ℕ) (past : List Entry) (n : ℕ) (d : Accepted) → IsLegal past → open_stream past ≡ Some s → IsSome (last_map s past) →
    datagram past n ≡ Some d → IsLeastDue s past n → IsLawfulPull s past (data_frame s past n d)
data_is_lawful s past n d legal on behind known least =
    let fits = datagram_fits past n d legal known in
    let range = number_of_known past n (ap is_some known) in
    record {
      on = on;
      header =
          header_fits past n (length d.payload) d.sport d.dport (data_flags s past n d) legal (omega (arith, range, few_accepted past legal))
          (omega (arith, fits.short)) fits.sport fits.dport (flags_fit (was_pulled past n) (asks_with s past n d));
      whole = sym (len_of_header past n (length d.payload) d.sport d.dport (data_flags s past n d));
      owed = inr (inl (record {
        n = n;
        d = d;
        behind_a_map = behind;
        known = known;
        alive = least.alive;
        once = least.once;
        least = least.least;
        is = refl;
      }));
    }

ack_flags_fit : (asking : Bool) → flag_if asking ACK_REQUIRED < 2 ^ 8
ack_flags_fit = elim [ true ↦ omega arith | false ↦ omega arith ]

pub ack_is_lawful : (s : ℕ) (past : List Entry) → IsLegal past → open_stream past ≡ Some s → IsSome (last_map s past) → due_numbers s past ≡ [] →
    (is_asked s past || must_ask s past) ≡ true → IsLawfulPull s past (ack_frame past (must_ask s past))
ack_is_lawful s past legal on behind none asked =
    let flags = flag_if (must_ask s past) ACK_REQUIRED in
    record {
      on = on;
      header =
          header_fits past 0 0 0 0 flags legal (omega arith) (omega arith) (omega arith) (omega arith) (ack_flags_fit (must_ask s past));
      whole = sym (len_of_header past 0 0 0 0 flags);
      owed = inr (inr (record { behind_a_map = behind; all_pulled = none_due s past none; asked = asked; is = refl }));
    }

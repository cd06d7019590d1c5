-- Acts of a line where its journal has more entries for which no port is asked, or none.
use Rattle.std.proofs.Common.{◌≡◌, ℕ, Option, List, ◌∷◌, refl, sym, subst, ◌∙◌}
use Rattle.rds_model.specs.declared.entry.Entry.{Entry}
use Rattle.rds_model.specs.declared.entry.Entry.TheVariants as entry
use Rattle.rds_bindtab.specs.Seats.{PortSeat, after_look, knowing}
use Rattle.rds_line.specs.Acts.{Acted, Acts, AsksNoPort, enters, looks, nothing}
use Rattle.rds_line.specs.Line.{pulls_in}

-- the entry is neither a reading nor a pull
abbrev pub IsNoFrame : Entry → Type 0
IsNoFrame (entry.Accept slot sport dport payload) = Unit {0}
IsNoFrame (entry.Cancel slot target) = Unit {0}
IsNoFrame (entry.Open stream) = Unit {0}
IsNoFrame (entry.Pull stream frame) = ⊥
IsNoFrame (entry.Read stream frame outcome) = ⊥
IsNoFrame (entry.Shut stream) = Unit {0}
IsNoFrame (entry.Bad stream header cause) = Unit {0}

-- for such an entry no port is asked
no_frame_asks : (e : Entry) → IsNoFrame e → AsksNoPort e
no_frame_asks (entry.Accept slot sport dport payload) is = tt
no_frame_asks (entry.Cancel slot target) is = tt
no_frame_asks (entry.Open stream) is = tt
no_frame_asks (entry.Pull stream frame) is = absurd is
no_frame_asks (entry.Read stream frame outcome) is = absurd is
no_frame_asks (entry.Shut stream) is = tt
no_frame_asks (entry.Bad stream header cause) is = tt

no_frame_pulls : (e : Entry) (past : List Entry) → IsNoFrame e → pulls_in (e ∷ past) ≡ pulls_in past
no_frame_pulls (entry.Accept slot sport dport payload) past is = refl
no_frame_pulls (entry.Cancel slot target) past is = refl
no_frame_pulls (entry.Open stream) past is = refl
no_frame_pulls (entry.Pull stream frame) past is = absurd is
no_frame_pulls (entry.Read stream frame outcome) past is = absurd is
no_frame_pulls (entry.Shut stream) past is = refl
no_frame_pulls (entry.Bad stream header cause) past is = refl

-- the line has acted on, where only its journal got more
abbrev pub ActsOn : List Entry → List Entry → Type 0
ActsOn old later = (a b : Acted) → b.past ≡ old → Acts a b → Acts a (record b { past = later })

-- the same journal
pub still_acts : (old later : List Entry) → later ≡ old → ActsOn old later
still_acts old later same a b is acts = subst (λ (l : List Entry). Acts a (record b { past = l })) (is ∙ sym same) acts

-- one entry more
pub entry_acts : (e : Entry) (old later : List Entry) → AsksNoPort e → later ≡ e ∷ old → ActsOn old later
entry_acts e old later asks more a b is acts =
    subst (λ (l : List Entry). Acts a (record b { past = l })) (sym more)
    (subst (λ (l : List Entry). Acts a (record b { past = e ∷ l })) is (enters e asks acts))

-- a port was looked up, and no more
pub looked_acts : (b : Acted) (after : PortSeat) (port : ℕ) (found : Option ℕ) → after ≡ knowing b.ports (after_look b.ports.view port found) →
    Acts b (record b { ports = after })
looked_acts b after port found is =
    subst (λ (h : PortSeat). Acts b (record b { ports = h })) (sym is) (looks port found nothing)

-- no frame was pulled, and for what was appended no port was asked
pub record IsQuietPast (old later : List Entry) : Type 0 where
  pub pulls : pulls_in later ≡ pulls_in old
  pub acts : ActsOn old later

pub still_past : {old later : List Entry} → later ≡ old → IsQuietPast old later
still_past {old} {later} same =
    record { pulls = subst (λ (l : List Entry). pulls_in l ≡ pulls_in old) (sym same) refl; acts = still_acts old later same }

pub more_past : {old later : List Entry} (e : Entry) → IsNoFrame e → later ≡ e ∷ old → IsQuietPast old later
more_past {old} {later} e is more = record {
  pulls = subst (λ (l : List Entry). pulls_in l ≡ pulls_in old) (sym more) (no_frame_pulls e old is);
  acts = entry_acts e old later (no_frame_asks e is) more;
}

pub past_through : {old middle later : List Entry} → IsQuietPast old middle → IsQuietPast middle later → IsQuietPast old later
past_through {old} {middle} {later} first second = record {
  pulls = second.pulls ∙ first.pulls;
  acts = λ a b is acts. second.acts a (record b { past = middle }) refl (first.acts a b is acts);
}

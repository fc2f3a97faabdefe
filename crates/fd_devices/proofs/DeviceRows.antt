-- The stamp of each device has the rows of its equations, and so has the system of all.
use Rattle.std.proofs.Common.{List, [], ◌∷◌}
use Rattle.std.specs.List.{All}
use Rattle.std.proofs.lemmas.List.Elements.{All-nil, All-cons, All-head, All-tail}
use Rattle.dss_layout.specs.fd_exact.FractionLaws.{Same-sym}
use Rattle.dss_layout.specs.fd_exact.States.{State}
use Rattle.fd_xfmr.specs.fd_system.Equations.{Part, equation}
use Rattle.fd_xfmr.specs.fd_system.System.{StampView, residual_of, Represents}
use Rattle.fd_xfmr.proofs.CallerLemmas.fd_system.{term_stamp, no_parts, Represents-joined, Meets-Same, loads_represent}
use Rattle.fd_elements.specs.fd_line.Line.{line_list, line_parts}
use Rattle.fd_elements.proofs.CallerLemmas.fd_line.{line_is}
use Rattle.fd_elements.proofs.CallerLemmas.fd_source.{source_is}
use Rattle.fd_xfmr.specs.Transformer.{xfmr_list, xfmr_parts}
use Rattle.fd_xfmr.proofs.CallerLemmas.{xfmr_is}
use Rattle.fd_cap.specs.Capacitor.{cap_draw_of, cap_list, cap_parts}
use Rattle.fd_cap.proofs.CallerLemmas.{cap_is}
use Rattle.fd_devices.specs.Devices.{Device, source, line, transformer, capacitor, loads, other, device_parts, device_stamp, IsGood, parts_of_all, stamp_of_all, AgreesWith, DeviceLaw}

device_represents : (d : Device) → IsGood d → Represents (device_stamp d) (device_parts d)
device_represents (source s at) g = (source_is s at).represents
device_represents (line l at) g = term_stamp (line_list l at) 0 (line_parts l at) (line_is l at).adds_up
device_represents (transformer d t at) g = term_stamp (xfmr_list d t at) 0 (xfmr_parts d t at) (xfmr_is d t at g.0 g.1).adds_up
device_represents (capacitor d closed at) g = term_stamp (cap_list d closed at) (cap_draw_of d closed) (cap_parts d closed at) (cap_is d closed at g).adds_up
device_represents (loads us) g = loads_represent us g
device_represents other g = λ x o l. no_parts

all_represent : (ds : List Device) → All IsGood ds → All (λ d. Represents (device_stamp d) (device_parts d)) ds
all_represent [] h = All-nil (λ d. Represents (device_stamp d) (device_parts d))
all_represent (d ∷ ds) h =
    All-cons (λ e. Represents (device_stamp e) (device_parts e)) d ds (device_represents d (All-head IsGood d ds h))
    (all_represent ds (All-tail IsGood d ds h))

-- what represents meets the same numbers
agreeing : (s : StampView) (ps : State → List Part) → Represents s ps → AgreesWith s ps
agreeing s ps r = record {
  same = r;
  up = λ e n x o. Meets-Same (residual_of s) (λ y l. equation l (ps y)) e n x (λ l. r x o l);
  down = λ e n x o. Meets-Same (λ y l. equation l (ps y)) (residual_of s) e n x (λ l. Same-sym (r x o l));
}

pub devices_agree : DeviceLaw
devices_agree ds h = agreeing (stamp_of_all ds) (parts_of_all ds) (Represents-joined device_stamp device_parts ds (all_represent ds h))

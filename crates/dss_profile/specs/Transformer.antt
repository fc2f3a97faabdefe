-- The properties of a Transformer: the form and range of each, and the field that it sets.
use Rattle.std.specs.Prelude.{ℕ, ℤ, ◌==◌, List, [], ◌∷◌, codes, pos, Some, None, Result, Ok, if◌then◌else◌}
use Rattle.dss_values.specs.dss_lexer.declared.pair.Pair.{Pair}
use Rattle.dss_values.specs.dss_model.declared.fault.ModelFault.{ModelFault}
use Rattle.dss_values.specs.dss_model.declared.command.Place.{Place}
use Rattle.dss_values.specs.dss_model.declared.transformer.Transformer.{Transformer}
use Rattle.dss_profile.specs.declared.transformer.TransformerProperty.{TransformerProperty}
use Rattle.dss_profile.specs.declared.transformer.TransformerProperty.TheVariants as the
use Rattle.dss_profile.specs.declared.transformer.BothProperty.{BothProperty}
use Rattle.dss_profile.specs.declared.transformer.BothProperty.TheVariants as of_both
use Rattle.dss_values.specs.dss_model.declared.transformer.Winding.{Winding}
use Rattle.dss_profile.specs.declared.transformer.WindingProperty.{WindingProperty}
use Rattle.dss_profile.specs.declared.transformer.WindingProperty.TheVariants as of_winding
use Rattle.dss_values.specs.dss_model.declared.words.Connection.TheVariants as connection
use Rattle.dss_values.specs.dss_model.declared.words.LeadLag.TheVariants as lead
use Rattle.dss_values.specs.dss_model.Answers.{◌>>=◌}
use Rattle.dss_values.specs.dss_model.declared.fault.ModelFault.TheVariants as fault
use Rattle.dss_values.specs.dss_model.Ranges.{ones}
use Rattle.dss_values.specs.Forms.{number_in, number_between, whole_between, whole_among, supported_among, choice_in, bus_in, tap_in, half, two_numbers_between, two_taps_in, two_buses_in, two_choices_in}
use Rattle.dss_values.specs.Words.{connections, lead_lags}

abbrev pub transformer_properties : List (List ℕ × TransformerProperty)
transformer_properties =
    (codes "phases", the.Phases)
    ∷ (codes "windings", the.Windings)
    ∷ (codes "wdg", the.Wdg)
    ∷ (codes "bus", the.OfWinding of_winding.Bus)
    ∷ (codes "conn", the.OfWinding of_winding.Conn)
    ∷ (codes "kv", the.OfWinding of_winding.Kv)
    ∷ (codes "%r", the.OfWinding of_winding.PctR)
    ∷ (codes "tap", the.OfWinding of_winding.Tap)
    ∷ (codes "mintap", the.OfWinding of_winding.Mintap)
    ∷ (codes "maxtap", the.OfWinding of_winding.Maxtap)
    ∷ (codes "numtaps", the.OfWinding of_winding.Numtaps)
    ∷ (codes "kva", the.Kva)
    ∷ (codes "xhl", the.Xhl)
    ∷ (codes "%loadloss", the.PctLoadloss)
    ∷ (codes "buses", the.OfBoth of_both.Buses)
    ∷ (codes "conns", the.OfBoth of_both.Conns)
    ∷ (codes "kvs", the.OfBoth of_both.Kvs)
    ∷ (codes "kvas", the.OfBoth of_both.Kvas)
    ∷ (codes "%rs", the.OfBoth of_both.PctRs)
    ∷ (codes "taps", the.OfBoth of_both.Taps)
    ∷ (codes "leadlag", the.Leadlag)
    ∷ (codes "%noloadloss", the.PctNoloadloss)
    ∷ (codes "%imag", the.PctImag)
    ∷ (codes "basefreq", the.Basefreq)
    ∷ (codes "bank", the.Ignored)
    ∷ (codes "sub", the.Ignored)
    ∷ (codes "subname", the.Ignored)
    ∷ (codes "ppm_antifloat", the.Ignored)
    ∷ []

abbrev pub with_winding : ℕ → WindingProperty → Pair → Winding → Result Winding ModelFault
with_winding solves of_winding.Bus pair winding = bus_in pair >>= λ b. Ok (record winding { bus = Some b })
with_winding solves of_winding.Conn pair winding = choice_in fault.BadValue connections pair >>= λ c. Ok (record winding { conn = c })
with_winding solves of_winding.Kv pair winding = number_between (pos 10_000_000) (ones 1000) pair >>= λ n. Ok (record winding { kv = n })
with_winding solves of_winding.PctR pair winding = number_between (pos 0) (ones 100) pair >>= λ n. Ok (record winding { pct_r = n })
with_winding solves of_winding.Tap pair winding = tap_in pair >>= λ n. Ok (record winding { tap = n; set_at = solves })
with_winding solves of_winding.Mintap pair winding = tap_in pair >>= λ n. Ok (record winding { mintap = n })
with_winding solves of_winding.Maxtap pair winding = tap_in pair >>= λ n. Ok (record winding { maxtap = n })
with_winding solves of_winding.Numtaps pair winding = whole_between 1 1000 pair >>= λ n. Ok (record winding { numtaps = n })

-- the winding that wdg chose last takes the property
abbrev pub with_chosen : ℕ → WindingProperty → Pair → Transformer → Result Transformer ModelFault
with_chosen solves property pair xfmr = if xfmr.wdg == 1
    then (with_winding solves property pair xfmr.first >>= λ w. Ok (record xfmr { first = w }))
    else (with_winding solves property pair xfmr.second >>= λ w. Ok (record xfmr { second = w }))

abbrev pub with_kvas : ℤ → ℤ → Transformer → Transformer
with_kvas a b xfmr = record xfmr { first = record xfmr.first { kva = a }; second = record xfmr.second { kva = b } }

abbrev pub with_pct_rs : ℤ → ℤ → Transformer → Transformer
with_pct_rs a b xfmr = record xfmr { first = record xfmr.first { pct_r = a }; second = record xfmr.second { pct_r = b } }

-- the kva of winding 1 is that of both, and the kva of winding 2 its own
abbrev pub with_kva : ℤ → Transformer → Transformer
with_kva n xfmr = if xfmr.wdg == 1 then with_kvas n n xfmr else with_kvas xfmr.first.kva n xfmr

-- the losses at full load, of which each winding has half
abbrev pub with_losses : ℤ → Transformer → Transformer
with_losses n xfmr = with_pct_rs (half n) (half n) (record xfmr { pct_loadloss = Some n })

abbrev pub with_taps : ℕ → ℕ → ℕ → Transformer → Transformer
with_taps solves a b xfmr = record xfmr { first = record xfmr.first { tap = a; set_at = solves }; second = record xfmr.second { tap = b; set_at = solves } }

-- the number 0, and any other is unsupported
unfoldable pub zero_in : Pair → Result ℤ ModelFault
zero_in pair = supported_among (0 ∷ []) pair >>= λ n. Ok (pos 0)

-- two values, the first for winding 1 and the second for winding 2
abbrev pub with_both : ℕ → BothProperty → Pair → Transformer → Result Transformer ModelFault
with_both solves of_both.Buses pair xfmr =
    two_buses_in pair
    >>= λ b.
    Ok (record xfmr { first = record xfmr.first { bus = Some b.0 }; second = record xfmr.second { bus = Some b.1 } })
with_both solves of_both.Conns pair xfmr =
    two_choices_in connections pair
    >>= λ c. Ok (record xfmr { first = record xfmr.first { conn = c.0 }; second = record xfmr.second { conn = c.1 } })
with_both solves of_both.Kvs pair xfmr =
    two_numbers_between (pos 10_000_000) (ones 1000) pair
    >>= λ n. Ok (record xfmr { first = record xfmr.first { kv = n.0 }; second = record xfmr.second { kv = n.1 } })
with_both solves of_both.Kvas pair xfmr = two_numbers_between (pos 1_000_000) (ones 1_000_000) pair >>= λ n. Ok (with_kvas n.0 n.1 xfmr)
with_both solves of_both.PctRs pair xfmr = two_numbers_between (pos 0) (ones 100) pair >>= λ n. Ok (with_pct_rs n.0 n.1 xfmr)
with_both solves of_both.Taps pair xfmr = two_taps_in pair >>= λ n. Ok (with_taps solves n.0 n.1 xfmr)

abbrev pub with_transformer : ℕ → TransformerProperty → Pair → Transformer → Result Transformer ModelFault
with_transformer solves the.Phases pair xfmr = whole_among (1 ∷ 3 ∷ []) pair >>= λ n. Ok (record xfmr { phases = n })
with_transformer solves the.Windings pair xfmr = supported_among (2 ∷ []) pair >>= λ n. Ok (record xfmr { windings = n })
with_transformer solves the.Wdg pair xfmr = whole_between 1 2 pair >>= λ n. Ok (record xfmr { wdg = n })
with_transformer solves (the.OfWinding property) pair xfmr = with_chosen solves property pair xfmr
with_transformer solves the.Kva pair xfmr = number_between (pos 1_000_000) (ones 1_000_000) pair >>= λ n. Ok (with_kva n xfmr)
with_transformer solves the.Xhl pair xfmr = number_between (pos 0) (ones 100) pair >>= λ n. Ok (record xfmr { xhl = n })
with_transformer solves the.PctLoadloss pair xfmr = number_between (pos 0) (ones 200) pair >>= λ n. Ok (with_losses n xfmr)
with_transformer solves (the.OfBoth property) pair xfmr = with_both solves property pair xfmr
with_transformer solves the.Leadlag pair xfmr = choice_in fault.Unsupported lead_lags pair >>= λ l. Ok (record xfmr { leadlag = l })
with_transformer solves the.PctNoloadloss pair xfmr = zero_in pair >>= λ n. Ok (record xfmr { pct_noloadloss = n })
with_transformer solves the.PctImag pair xfmr = zero_in pair >>= λ n. Ok (record xfmr { pct_imag = n })
with_transformer solves the.Basefreq pair xfmr = number_in pair >>= λ n. Ok (record xfmr { basefreq = Some n })
with_transformer solves the.Ignored pair xfmr = Ok xfmr

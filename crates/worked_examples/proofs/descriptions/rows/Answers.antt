use Rattle.worked_examples.proofs.Computed.{row_k, row_k_lower, row_kt, row_p, row_ku, row_kuc, row_no_clock, row_bypass_twice, row_idcode_ones, row_sample_1x, row_length_3, row_capture_x1, row_row_tms, row_capture_10, row_id_0, row_boundary_4, row_cut_100, row_hash, row_whole}
use Rattle.worked_examples.proofs.descriptions.rows.Goals as goal

pub returns : goal.returns
returns c = record { k = row_k; k_lower = row_k_lower; kt = row_kt; p = row_p; ku = row_ku; kuc = row_kuc; no_clock = row_no_clock; bypass_twice = row_bypass_twice; idcode_ones = row_idcode_ones; sample_1x = row_sample_1x; length_3 = row_length_3; capture_x1 = row_capture_x1; row_tms = row_row_tms; capture_10 = row_capture_10; id_0 = row_id_0; boundary_4 = row_boundary_4; cut_100 = row_cut_100; hash = row_hash; whole = row_whole }

-- Each row computes.
use Rattle.std.proofs.Common.{refl}
use Rattle.clap.proofs.OnLiterals.{clap_on_literals}
use Rattle.command_line.specs.Usage.{UsageRows}

pub usage : UsageRows
unfolding clap_on_literals
usage = record {
  no_words = (refl, refl);
  play = (refl, refl);
  play_file = (refl, refl);
  play_bytes = (refl, refl);
  play_board = (refl, refl);
  board_first = (refl, refl);
  dashed_file = (refl, refl);
  check = (refl, refl);
  check_file = (refl, refl);
  check_explain = (refl, refl);
  play_all = (refl, refl);
  loop_all = (refl, refl);
  connect_all = (refl, refl);
  play_explain = (refl, refl);
  play_all_explain = (refl, refl);
  play_vcd = (refl, refl);
  play_vcd_fails = (refl, refl);
  play_vcd_plain = (refl, refl);
  play_vcd_both = (refl, refl);
  play_vcd_names = (refl, refl);
  play_vcd_tdo = (refl, refl);
  play_vcd_drives = (refl, refl);
  play_vcd_every_flag = (refl, refl);
  names_of_no_waves = (refl, refl);
  check_draws_no_names = refl;
  check_draws_no_drives = refl;
  loop_draws_no_tdo = refl;
  fails_of_no_waves = (refl, refl);
  check_draws_no_fails = refl;
  vcd_of_no_name = refl;
  check_draws_nothing = refl;
  loop_draws_nothing = refl;
  loop_explain = (refl, refl);
  connect_explain = (refl, refl);
  serve_explain = (refl, refl);
  describe_explain = (refl, refl);
  cover_explain = (refl, refl);
  check_plays_nothing = refl;
  no_subcommand = refl;
  check_tells_no_bytes = refl;
  board_of_no_name = refl;
  board_twice = refl;
  two_files = refl;
  asks_for_help = refl;
  asks_for_a_commands_help = refl;
  asks_for_the_version = refl;
  asks_for_the_version_in_short = refl;
  a_command_has_no_version = refl;
  loop_file = (refl, refl);
  serve = (refl, refl);
  serve_bounds = (refl, refl);
  connect = (refl, refl);
  connect_host = (refl, refl);
  loop_tells_no_bytes = refl;
  describe = (refl, refl);
  describe_without_board = refl;
  describe_plays_nothing = refl;
  cover = (refl, refl);
  cover_list = (refl, refl);
  cover_without_board = refl;
  diagnose = (refl, refl);
  diagnose_log = (refl, refl);
  diagnose_without_file = refl;
  diagnose_without_board = refl;
  play_reads_no_log = refl;
  play_lists_nothing = refl;
  serve_without_board = refl;
  connect_without_port = refl;
  no_port = refl;
  no_such_port = refl;
  a_word_for_a_port = refl;
  too_many_bytes = refl;
}

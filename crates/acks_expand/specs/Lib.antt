-- How the contracts say what an expansion answers.
pub mod Expanding

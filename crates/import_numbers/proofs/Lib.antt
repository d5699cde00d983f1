mod DigitByDigit
